use Rattle.std.proofs.Common.{[], refl}
use Rattle.model.specs.Answered.{tables_of}
use Rattle.model.specs.Calls.{course_of}
use Rattle.calls.proofs.Judged.{unsound_passed, judged_sound}
use Rattle.calls.proofs.activate.Goals as goal

pub returns-in_err-judge : goal.returns-in_err-judge
unfolding course_of
returns-in_err-judge c = unsound_passed (tables_of c.args.policy) c.args.state.now [] _ _ refl _ _ c.from_residual.ensures.1 c.in_err-judge.ensures

pub activate-requires : goal.activate-requires
activate-requires c = judged_sound (tables_of c.args.policy) c.args.state.now c.in_ok-judge.ensures

-- The invariant: the rows passed are judged, and of a user's rows either all or none.
use Rattle.support.specs.Verdicts.{world_under}
use Rattle.support.proofs.Walking.{JudgedBefore}
use Rattle.support.proofs.Pass.judge_each.Given as goal

abbrev pub invariant-loop-i : goal.invariant-loop-i
invariant-loop-i l = JudgedBefore (world_under l.self.policy l.self.state.now) l.self.state.now l.i l.verdicts

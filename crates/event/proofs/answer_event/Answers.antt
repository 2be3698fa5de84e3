use mathlib.Core.Path.{sym, ◌∙◌}
use Rattle.model.specs.Answered.{tables_of}
use Rattle.event.proofs.Events.{malformed_answers, keeps-sound}
use Rattle.event.proofs.answer_event.Goals as goal

pub returns-then-not-sound_policy-clause-answer : goal.returns-then-not-sound_policy-clause-answer
returns-then-not-sound_policy-clause-answer c = malformed_answers (tables_of c.args.policy) c.args.state.now c.args.line c.requires.1 (sym c.requires.0.policy ∙ c.if-not-sound_policy.true)

pub returns-clause-kept : goal.returns-clause-kept
returns-clause-kept c = keeps-sound (tables_of c.args.policy) c.args.state.now _ _ c.call.result c.requires.0.state c.call.ensures

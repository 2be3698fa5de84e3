use Rattle.model.specs.Answered.{tables_of}
use Rattle.model.proofs.InTurn.{second_judged, first-failed}
use Rattle.policy.proofs.Parts.{policy_parts}
use Rattle.policy.proofs.policy_sound.Goals as goal

pub returns-then-tables_formed : goal.returns-then-tables_formed
returns-then-tables_formed c = second_judged _ _ (policy_parts (tables_of c.args.policy)) c.tables_formed.ensures c.if-tables_formed.true c.rows_fit.ensures

pub returns-else-tables_formed : goal.returns-else-tables_formed
returns-else-tables_formed c = first-failed _ _ (policy_parts (tables_of c.args.policy)) c.tables_formed.ensures c.if-tables_formed.false

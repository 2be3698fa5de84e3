use Rattle.std.proofs.Common.{sym, ◌∙◌, arith}
use Rattle.rests.proofs.Stepping.{step_more, step-found, step-none}
use Rattle.rests.proofs.next_role.Goals as goal

pub returns-in-Some : goal.returns-in-Some
returns-in-Some c = step-found c.args.policy.rules.now c.args.policy.kinds.now c.args.row c.membership-number-items.result.now (cc) c.loop-number.number-index c.in-Some.role (omega arith) c.loop-number.invariant (sym c.in-Some.is ∙ c.first_role.ensures)

pub loop-number-preserved : goal.loop-number-preserved
loop-number-preserved c = step_more c.args.policy.rules.now c.args.policy.kinds.now c.args.row c.membership-number-items.result.now (cc) c.loop-number.number-index (omega arith) c.loop-number.invariant (sym c.in_default.is ∙ c.first_role.ensures)

pub returns : goal.returns
returns c = step-none c.args.policy.rules.now c.args.policy.kinds.now c.args.row c.membership-number-items.result.now (cc) c.loop-number.number-index (omega arith) c.loop-number.invariant

use Rattle.std.proofs.Common.{◌∙◌}
use borrow.Author.Tests.{eq-eqb, ne_eqb}
use Rattle.marks.specs.Marked.{has}
use Rattle.marks.proofs.Holding.{rule_by, another_by}
use Rattle.table.specs.Entries.{rule_at}
use Rattle.inner.proofs.is_satisfied.Goals as goal

pub returns-then-rule-role : goal.returns-then-rule-role
returns-then-rule-role c =
    rule_by (has c.args.own.now) c.args.policy.rules.now c.args.policy.kinds.now c.args.state.now c.args.role (rule_at c.args.policy.rules.now c.args.i) c.rule_at-rule.result c.rule_holds.result c.rule_at-rule.ensures (eq-eqb _ _ c.if-rule-role.true) c.rule_holds.ensures

pub returns-else-rule-role : goal.returns-else-rule-role
returns-else-rule-role c =
    ne_eqb _ _ c.if-rule-role.false
    ∙ another_by (has c.args.own.now) c.args.policy.rules.now c.args.policy.kinds.now c.args.state.now c.args.role (rule_at c.args.policy.rules.now c.args.i) c.rule_at-rule.result c.rule_at-rule.ensures (ne_eqb _ _ c.if-rule-role.false)

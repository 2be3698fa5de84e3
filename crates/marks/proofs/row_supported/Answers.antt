use Rattle.std.proofs.Common.{ℕ, [], ap, ◌∙◌}
use Rattle.model.specs.Layout.{policy_of}
use Rattle.model.specs.Conditions.{rule_numbered}
use Rattle.table.specs.Entries.{without_rights}
use Rattle.marks.specs.Marked.{has}
use Rattle.marks.proofs.Holding.{membership_by}
use Rattle.marks.proofs.row_supported.Goals as goal

pub returns : goal.returns
returns c =
    membership_by (has c.args.own.now) c.args.policy.rules.now c.args.policy.kinds.now c.args.state.now c.args.row c.rule_numbered-rule.result c.all_conditions_hold.result
    (c.rule_numbered-rule.ensures ∙ ap (λ (n : ℕ). rule_numbered (policy_of (without_rights c.args.policy.rules.now [])) n) c.from.ensures)
    (cc)

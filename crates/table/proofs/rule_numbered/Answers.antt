use Rattle.model.specs.Layout.{rule_from, policy_of}
use Rattle.model.specs.Conditions.{no_rule}
use Rattle.table.proofs.Entries.{numbered, zeros}
use Rattle.table.proofs.rule_numbered.Goals as goal

pub returns : goal.returns
unfolding policy_of
returns c =
    numbered rule_from 11 c.args.rules.now c.args.i no_rule c.entry_numbered.result c.entry_numbered.ensures.there
    (λ h.
    let z = c.entry_numbered.ensures.beyond h in
    λ j. record { target = z.0 j; n = z.1.0 j; m = z.1.1.0 j; conditions = zeros c.entry_numbered.result.conditions 8 z.1.1.1 j })

use Rattle.model.specs.Layout.{kind_from, policy_of}
use Rattle.model.specs.Conditions.{no_kind}
use Rattle.table.proofs.Entries.{numbered, zeros}
use Rattle.table.proofs.kind_numbered.Goals as goal

pub returns : goal.returns
unfolding policy_of
returns c =
    numbered kind_from 7 c.args.kinds.now c.args.k no_kind c.entry_numbered.result c.entry_numbered.ensures.there
    (λ h.
    let z = c.entry_numbered.ensures.beyond h in
    λ j. record { appointer = z.0 j; mode = z.1.0 j; s = z.1.1.0 j; prerequisites = zeros c.entry_numbered.result.prerequisites 4 z.1.1.1 j })

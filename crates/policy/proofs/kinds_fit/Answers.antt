use Prim.Native.Nat.{◌/◌}
use Rattle.std.proofs.Common.{rules, refl}
use borrow.Author.Tests.{tests}
use lib.ListN.{length}
use Rattle.model.specs.Layout.{kind_from, policy_of}
use Rattle.model.specs.Sound.{kind_fits}
use Rattle.table.specs.Entries.{kind_at}
use Rattle.table.proofs.Passes.{all_of_entries}
use Rattle.policy.proofs.kinds_fit.Goals as goal

pub returns : goal.returns
unfolding policy_of kind_at
returns c = all_of_entries kind_from 7 c.args.kinds.now kind_fits (length c.args.kinds.now / 7) _ _ _ c.all.ensures.ran refl (λ i b q k. search (rules, tests))

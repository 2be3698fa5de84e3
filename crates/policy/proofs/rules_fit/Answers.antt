use Prim.Native.Nat.{◌/◌}
use Rattle.std.proofs.Common.{rules, refl}
use borrow.Author.Tests.{tests}
use lib.ListN.{length}
use Rattle.model.specs.Layout.{rule_from, policy_of}
use Rattle.model.specs.Sound.{rule_fits}
use Rattle.table.specs.Entries.{rule_at, kinds_only}
use Rattle.table.proofs.Passes.{all_of_entries}
use Rattle.policy.proofs.rules_fit.Goals as goal

pub returns : goal.returns
unfolding policy_of rule_at
returns c = all_of_entries rule_from 11 c.args.policy.rules.now (rule_fits (kinds_only c.args.policy.kinds.now)) (length c.args.policy.rules.now / 11) _ _ _ c.all.ensures.ran refl (λ i b q k. search (rules, tests))

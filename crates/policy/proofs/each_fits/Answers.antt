use Rattle.std.proofs.Common.{rules, ap, ◌∙◌}
use borrow.Author.Tests.{tests}
use lib.Dec.{eqb}
use Prim.Native.Nat.{ℕ}
use Rattle.std.proofs.lemmas.Iterator.{YieldsList-from_slice}
use Rattle.std.proofs.lemmas.Iterator.Consumers.{fold_from_yields_List}
use Rattle.policy.proofs.Rights.{joined, none_joined}
use Rattle.policy.proofs.each_fits.Goals as goal

pub returns : goal.returns
returns c =
    ap (λ (n : ℕ). eqb n 0) (fold_from_yields_List _ joined 0 _ c.fold.ensures.ran (YieldsList-from_slice c.args.rights.now cc) (λ a x b q k. search (rules, tests)))
    ∙ none_joined c.args.rights.now 0

use Prim.Native.Nat.{ℕ}
use mathlib.Core.Path.{◌∙◌}
use mathlib.Core.Bool.{Bool, false, ◌||◌}
use lib.Dec.{eqb}
use Rattle.std.proofs.Common.{rules}
use borrow.Author.Tests.{tests}
use Rattle.std.proofs.lemmas.Iterator.{YieldsList-from_slice}
use Rattle.std.proofs.lemmas.Iterator.Consumers.{fold_from_yields_List}
use Rattle.direct.proofs.Joined.{any_joined}
use Rattle.direct.proofs.is_met.Goals as goal

pub returns : goal.returns
returns c =
    fold_from_yields_List _ (λ (b : Bool) (n : ℕ). b || eqb n c.args.privilege) false c.fold.result c.fold.ensures.ran (YieldsList-from_slice c.args.numbers.now cc) (λ a x b q k. search (rules, tests))
    ∙ any_joined (λ (n : ℕ). eqb n c.args.privilege) c.args.numbers.now false

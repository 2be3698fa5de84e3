-- Facts that are 0 or 1: their halves are joined, and what is joined is zero exactly if each of them is a bit.
use Prim.Native.Nat.{ℕ, ◌/◌, ◌≤◌, ◌<◌}
use mathlib.Core.Path.{◌≡◌, sym, ap, ◌∙◌}
use mathlib.Core.Bool.{Bool, ◌&&◌, and-true, and_assoc}
use mathlib.Core.Logic.{◌⊎◌, inl, inr}
use mathlib.Core.List.{List, [], ◌∷◌}
use native.Mathlib.Omega.{arith}
use lib.Bits.{bit_or}
use lib.Dec.{eqb, leb}
use borrow.Author.Tests.{eq-eqb, ne_eqb, le-leb, lt-leb}
use Rattle.std.specs.List.{fold}
use Rattle.model.specs.Lists.{all, is_bit}
use Rattle.model.proofs.Tests.{lt_or_ge}
use Rattle.table.proofs.Zeros.{join_zero}

abbrev pub halves : ℕ → ℕ → ℕ
halves joined fact = bit_or joined (fact / 2)

half_none : (x : ℕ) → eqb (x / 2) 0 ≡ is_bit x
half_none x = go (lt_or_ge x 2)
  where
    go : (x < 2) ⊎ (2 ≤ x) → eqb (x / 2) 0 ≡ is_bit x
    go (inl h) = eq-eqb (x / 2) 0 (omega arith) ∙ sym (le-leb x 1 (omega arith))
    go (inr h) = ne_eqb (x / 2) 0 (λ e. omega (arith, e)) ∙ sym (lt-leb x 1 (omega arith))

pub halves_none : (facts : List ℕ) (o : ℕ) → eqb (fold halves o facts) 0 ≡ (eqb o 0 && all is_bit facts)
halves_none [] o = sym (and-true (eqb o 0))
halves_none (x ∷ facts) o =
    halves_none facts (halves o x)
    ∙ ap (λ (b : Bool). b && all is_bit facts) (join_zero o (x / 2) ∙ ap (λ (b : Bool). eqb o 0 && b) (half_none x))
    ∙ and_assoc (eqb o 0) (is_bit x) (all is_bit facts)

-- Numbers that are zero. They are joined bit by bit: what is joined is zero exactly if each of them is.
use Prim.Native.Nat.{ℕ, zero, suc, ◌+◌, ◌-◌, ◌≤◌}
use mathlib.Core.Path.{◌≡◌, refl, sym, ap, ◌∙◌}
use mathlib.Core.Bool.{Bool, ◌&&◌, and-true, and_assoc}
use mathlib.Core.List.{List, [], ◌∷◌}
use native.Mathlib.Omega.{arith}
use lib.Bits.{bit_or, or_add_and, and_le_l, and_comm}
use lib.Dec.{eqb}
use Rattle.std.specs.List.{fold}
use lib.ListN.{length, take, drop, length-drop}
use lib.Seq.{take-add, drop_at, drop-drop, length-take-le}
use borrow.Author.Tests.{ne_eqb}
use Rattle.model.specs.Lists.{all, is_zero}

pub join_zero : (a b : ℕ) → eqb (bit_or a b) 0 ≡ (eqb a 0 && eqb b 0)
join_zero zero zero = refl
join_zero zero (suc b) = refl
join_zero (suc a) b = ne_eqb (bit_or (suc a) b) 0 (λ e. omega (arith, e, or_add_and (suc a) b, and_comm (suc a) b, and_le_l b (suc a))) ∙ ap (λ (v : Bool). v && eqb b 0) (sym (ne_eqb (suc a) 0 (λ e. omega (arith, e))))

-- all of the numbers are joined to one
pub joined_zero : (r a : ℕ) (numbers : List ℕ) → r ≡ fold bit_or a numbers → eqb r 0 ≡ (eqb a 0 && all is_zero numbers)
joined_zero r a [] e = ap (λ (n : ℕ). eqb n 0) e ∙ sym (and-true (eqb a 0))
joined_zero r a (x ∷ numbers) e =
    joined_zero r (bit_or a x) numbers e
    ∙ ap (λ (b : Bool). b && all is_zero numbers) (join_zero a x)
    ∙ and_assoc (eqb a 0) (is_zero x) (all is_zero numbers)

module _ (l : List ℕ) (b : ℕ) where
  -- of w numbers that stand at b, those past the first k
  pub past : (w k : ℕ) → k ≤ w → b + w ≤ length l → drop k (take w (drop b l)) ≡ take (w - k) (drop (b + k) l)
  past w k h fits =
      let e : w ≡ k + (w - k) = omega arith in
      ap (λ (n : ℕ). drop k (take n (drop b l))) e
      ∙ ap (drop k) (take-add k (w - k) (drop b l))
      ∙ drop_at (take k (drop b l)) (take (w - k) (drop k (drop b l))) k (length-take-le k (drop b l) (simp length-drop (omega arith)))
      ∙ ap (take (w - k)) (drop-drop k b l)

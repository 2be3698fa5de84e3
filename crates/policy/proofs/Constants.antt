-- What the constant tables hold, tried for each place; and no other tables hold that.
use Prim.Native.Nat.{ℕ, ◌+◌, ◌*◌, ◌-◌, ◌/◌, ◌%◌, ◌≤◌, ◌<◌}
use mathlib.Core.Path.{◌≡◌, refl, sym, ◌∙◌, subst}
use mathlib.Core.Bool.{Bool, true, false, true≢false}
use mathlib.Core.Logic.{◌⊎◌, inl, inr}
use mathlib.Core.List.{List}
use native.Mathlib.Omega.{arith}
use borrow.Author.Tests.{eqb-true}
use lib.Dec.{eqb, ltb}
use lib.ListN.{get_or}
use lib.Seq.{ext_get_or}
use Rattle.model.proofs.Tests.{below, below_at, of_true, lt_or_ge}
use Rattle.policy.specs.Counting.{Counting, RightLimits}
use Rattle.policy.proofs.Places.{marks}
use Rattle.policy.proofs.Rights.{pairs}

-- both or neither
abbrev same : Bool → Bool → Bool
same true b = b
same false true = false
same false false = true

alike : (a b : Bool) → same a b ≡ true → a ≡ b
alike true b e = sym e
alike false true e = absurd (true≢false (sym e))
alike false false e = refl

-- the entry says what the test says
abbrev agrees : ℕ → ℕ → Bool
agrees n j = same (get_or marks (8 - n + j) false) (ltb j n)

pub counting_is : Counting marks
counting_is =
    record {
      size = refl;
      each = λ n j h l. alike (get_or marks (8 - n + j) false) (ltb j n) (below_at (agrees n) 8 (of_true (below (agrees n) 8) (below_at (λ (m : ℕ). below (agrees m) 8) 9 tt n (omega arith))) j l);
    }

pub limits_are : RightLimits (pairs 16)
limits_are =
    record {
      size = refl;
      role = λ m h. eqb-true (get_or (pairs 16) (m * 2) 0) 256 (below_at (λ (k : ℕ). eqb (get_or (pairs 16) (k * 2) 0) 256) 16 tt m h);
      privilege = λ m h. eqb-true (get_or (pairs 16) (m * 2 + 1) 0) 1024 (below_at (λ (k : ℕ). eqb (get_or (pairs 16) (k * 2 + 1) 0) 1024) 16 tt m h);
    }

pub counted_alone : (t : List Bool) → Counting t → t ≡ marks
counted_alone t counts = ext_get_or false t marks counts.size (λ i h. go i (lt_or_ge i 8) (omega (arith, counts.size)))
  where
    alike : (n j : ℕ) → n ≤ 8 → j < 8 → get_or t (8 - n + j) false ≡ get_or marks (8 - n + j) false
    alike n j few inside = counts.each n j few inside ∙ sym (counting_is.each n j few inside)

    go : (i : ℕ) → (i < 8) ⊎ (8 ≤ i) → i < 16 → get_or t i false ≡ get_or marks i false
    go i (inl h) l =
        let e : 8 - 8 + i ≡ i = omega arith in
        subst (λ (k : ℕ). get_or t k false ≡ get_or marks k false) e (alike 8 i (omega arith) h)
    go i (inr h) l =
        let e : 8 + (i - 8) ≡ i = omega arith in
        subst (λ (k : ℕ). get_or t k false ≡ get_or marks k false) e (alike 0 (i - 8) (omega arith) (omega arith))

pub limits_alone : (t : List ℕ) → RightLimits t → t ≡ pairs 16
limits_alone t l = ext_get_or 0 t (pairs 16) l.size (λ i h. go i (lt_or_ge (i % 2) 1) (omega (arith, l.size)))
  where
    go : (i : ℕ) → (i % 2 < 1) ⊎ (1 ≤ i % 2) → i < 32 → get_or t i 0 ≡ get_or (pairs 16) i 0
    go i (inl h) k =
        let e : i / 2 * 2 ≡ i = omega arith in
        subst (λ (n : ℕ). get_or t n 0 ≡ get_or (pairs 16) n 0) e (l.role (i / 2) (omega arith) ∙ sym (limits_are.role (i / 2) (omega arith)))
    go i (inr h) k =
        let e : i / 2 * 2 + 1 ≡ i = omega arith in
        subst (λ (n : ℕ). get_or t n 0 ≡ get_or (pairs 16) n 0) e (l.privilege (i / 2) (omega arith) ∙ sym (limits_are.privilege (i / 2) (omega arith)))

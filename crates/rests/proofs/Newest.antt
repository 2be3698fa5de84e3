-- The newest row of a role: what code finds from the last row down is the newest, and the role is active exactly if there is one.
use Prim.Native.Nat.{ℕ, zero, suc, ◌-◌, ◌≤◌}
use mathlib.Core.Path.{◌≡◌, refl, sym, ap, ◌∙◌, subst}
use mathlib.Core.Bool.{Bool, true, false, ◌||◌, cond, or-true}
use mathlib.Core.Logic.{◌≢◌}
use mathlib.Core.List.{List, [], ◌∷◌}
use native.Mathlib.Omega.{arith}
use lib.Dec.{T}
use Rattle.std.proofs.iter.runs.Sources.{nat_range_steps_back}
use Rattle.std.proofs.lemmas.Iterator.{YieldsList}
use Rattle.std.specs.Iterator.{AlwaysYields}
use Rattle.std.specs.Iterator.Adapters.{rev_source, rev_steps}
use Rattle.std.specs.List.{find}
use Rattle.std.specs.Prelude.{Some, None}
use Rattle.std.specs.declared.iter.Rev.{Rev}
use Rattle.std.specs.declared.ops.Range.{Range}
use Rattle.model.specs.Lists.{any}
use Rattle.model.specs.Conditions.{is_row, active}
use Rattle.model.proofs.Tests.{of_true, any_append}
use Rattle.table.specs.Entries.{row_at, first_rows}
use Rattle.table.proofs.Entries.{rows_more}
use Rattle.rests.specs.Newest.{newest, before}

-- what a place that was found, or none, says of the newest
pub before_some : (n i : ℕ) → Some i ≡ before n → n ≡ suc i
before_some zero i e = absurd (cc)
before_some (suc n) i e = let p : i ≡ n = cc in ap suc (sym p)

pub before_none : (n : ℕ) → None ≡ before n → n ≡ 0
before_none zero e = refl
before_none (suc n) e = absurd (cc)

-- the numbers below k, the last first
abbrev pub down : ℕ → List ℕ
down zero = []
down (suc k) = k ∷ down k

counts : (k : ℕ) (s : Rev (Range ℕ)) → (rev_source s).start ≡ 0 → (rev_source s).end ≡ k → AlwaysYields (rev_steps nat_range_steps_back) (λ x. x) s (down k)
counts zero s a e = λ x t h. omega arith
counts (suc k) s a e = ((λ t h. omega arith), (λ x t h. (omega arith, counts k t (omega arith) (omega arith))))

pub counted-down : (k : ℕ) {s : Rev (Range ℕ)} → rev_source s ≡ record { start = 0; end = k } → YieldsList (rev_steps nat_range_steps_back) (λ x. x) s (down k)
counted-down k {s} e = record { runs = counts k s (ap (λ (r : Range ℕ). r.start) e) (ap (λ (r : Range ℕ). r.end) e) }

module _ (s : List ℕ) (u q : ℕ) where
  -- what is found from the last row down is the newest
  pub found-newest : (k : ℕ) → find (λ (i : ℕ). is_row u q (row_at s i)) (down k) ≡ before (newest s u q k)
  unfolding newest
  found-newest zero = refl
  found-newest (suc k) = go (is_row u q (row_at s k)) (found-newest k)
    where
      go : (b : Bool) → find (λ (i : ℕ). is_row u q (row_at s i)) (down k) ≡ before (newest s u q k) → cond b (Some k) (find (λ (i : ℕ). is_row u q (row_at s i)) (down k)) ≡ before (cond b (suc k) (newest s u q k))
      go true e = refl
      go false e = e

  pub newest-within : (k : ℕ) → newest s u q k ≤ k
  unfolding newest
  newest-within zero = omega arith
  newest-within (suc k) = go (is_row u q (row_at s k)) (newest-within k)
    where
      go : (b : Bool) → newest s u q k ≤ k → cond b (suc k) (newest s u q k) ≤ suc k
      go true h = omega arith
      go false h = omega arith

  -- the newest row is the user's, for the role
  pub row_for_lem : (k : ℕ) → newest s u q k ≢ 0 → T (is_row u q (row_at s (newest s u q k - 1)))
  unfolding newest
  row_for_lem zero z = absurd (z refl)
  row_for_lem (suc k) z = go (is_row u q (row_at s k)) refl z (row_for_lem k)
    where
      go : (b : Bool) → is_row u q (row_at s k) ≡ b → cond b (suc k) (newest s u q k) ≢ 0 → (newest s u q k ≢ 0 → T (is_row u q (row_at s (newest s u q k - 1)))) → T (is_row u q (row_at s (cond b (suc k) (newest s u q k) - 1)))
      go true r w f = let at : k ≡ suc k - 1 = omega arith in subst (λ (n : ℕ). T (is_row u q (row_at s n))) at (of_true (is_row u q (row_at s k)) r)
      go false r w f = f w

-- the user is active in the role in the first k rows exactly if there is a newest row for it
pub newest-active : (s : List ℕ) (u q k : ℕ) → newest s u q k ≡ 0 → active (first_rows s k) u q ≡ false
unfolding newest active first_rows
newest-active s u q zero e = refl
newest-active s u q (suc k) e = go (is_row u q (row_at s k)) refl e (newest-active s u q k)
  where
    go : (b : Bool) → is_row u q (row_at s k) ≡ b → cond b (suc k) (newest s u q k) ≡ 0 → (newest s u q k ≡ 0 → active (first_rows s k) u q ≡ false) → active (first_rows s (suc k)) u q ≡ false
    go true r z f = absurd (omega arith)
    go false r z f = ap (any (is_row u q)) (rows_more s k) ∙ any_append (is_row u q) (first_rows s k) (row_at s k ∷ []) ∙ (λ i. f z i || (r i || false))

pub newest_some : (s : List ℕ) (u q k : ℕ) → newest s u q k ≢ 0 → active (first_rows s k) u q ≡ true
unfolding newest active
newest_some s u q zero e = absurd (e refl)
newest_some s u q (suc k) e = ap (any (is_row u q)) (rows_more s k) ∙ any_append (is_row u q) (first_rows s k) (row_at s k ∷ []) ∙ go (is_row u q (row_at s k)) e (newest_some s u q k)
  where
    go : (b : Bool) → cond b (suc k) (newest s u q k) ≢ 0 → (newest s u q k ≢ 0 → active (first_rows s k) u q ≡ true) → (any (is_row u q) (first_rows s k) || (b || false)) ≡ true
    go true z f = or-true (any (is_row u q) (first_rows s k))
    go false z f = ap (λ (a : Bool). a || false) (f z)

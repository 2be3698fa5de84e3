-- The pass over the rows: what stands in the state after i rows, of which w were kept. Which rows stay is said by their places.
use Prim.Native.Nat.{ℕ, zero, suc, ◌+◌, ◌*◌, ◌-◌, ◌≤◌, ◌<◌}
use mathlib.Core.Path.{◌≡◌, refl, sym, ap, ◌∙◌, subst, subst⁻¹}
use mathlib.Core.Bool.{Bool, true, false, not, cond}
use mathlib.Core.Logic.{◌≢◌, ◌⊎◌, inl, inr}
use mathlib.Core.List.{List, [], ◌∷◌, ◌++◌, append-nil}
use native.Mathlib.Omega.{arith}
use native.Mathlib.Numerals.{add-one}
use lib.Dec.{eqb}
use borrow.Author.Tests.{eq-eqb, ne_eqb}
use lib.ListN.{length, get_or, set, length-set}
use lib.Seq.{get_or-set_same, get_or-set_other}
use Rattle.model.specs.Lists.{without}
use Rattle.model.specs.Values.{World, with_rows}
use Rattle.model.specs.Layout.{decode, fact_numbers, row_count, row_from, row_numbers}
use Rattle.model.specs.Conditions.{active, supported}
use Rattle.model.specs.Left.{left}
use Rattle.model.specs.declared.Row.{Row}
use Rattle.model.proofs.Parts.{without-append}
use Rattle.model.proofs.Sweep.{left_last}
use Rattle.model.proofs.Tests.{lt_or_ge, eq_or_ne}
use Rattle.table.specs.Entries.{row_at, first_rows, Sized}
use Rattle.table.proofs.Entries.{rows_more, length-entries}
use Rattle.std.specs.Prelude.{Option, Some}
use Rattle.support.specs.Verdicts.{kept, Judged}
use Rattle.support.specs.declared.Verdict.{Verdict}
use Rattle.support.specs.declared.Verdict.TheVariants.{Stays, Falls, Twice}
use Rattle.table.specs.Writes.{Moved, Zeroed}
use Rattle.fall.specs.Pass.{row_place, not_falling, is_kept, staying, Swept, Closed, RowsLeft, RowsKept}
use Rattle.table.proofs.Form.{Formed, as_encoded, facts-kept, certificates-kept, row_same, rows-first-same}

pub swept_none : (stays : ℕ → Bool) (s : List ℕ) → Swept stays s s 0 0
unfolding first_rows staying
swept_none stays s = record { within = omega arith; size = refl; below = λ k h. refl; above = λ k h. refl; rows = refl }

-- the counts stand where the pass does not write
pub swept_sized : (stays : ℕ → Bool) (s₀ s : List ℕ) (i w : ℕ) → Sized s₀ → i ≤ 256 → Swept stays s₀ s i w → Sized s
swept_sized stays s₀ s i w z h p =
    record {
      size = p.size ∙ z.size;
      rows = subst⁻¹ (λ (n : ℕ). n ≤ 256) (p.below 64 (omega arith)) z.rows;
      certificates = subst⁻¹ (λ (n : ℕ). n ≤ 256) (p.above 833 (omega arith)) z.certificates;
    }

-- a row moved behind the rows kept
kept-rows : (s s' : List ℕ) (w i : ℕ) → w ≤ i → i < 256 → Moved s s' (row_place i) (row_place w) 3 → first_rows s' (w + 1) ≡ first_rows s w ++ (row_at s i ∷ [])
kept-rows s s' w i h l m = ap (first_rows s') (add-one w) ∙ rows_more s' w ∙ (λ k. rows-first-same s s' w (omega arith) (λ j a b. m.below j b) k ++ (row_same s s' i w l (omega arith) (λ j b. m.inside j b) k ∷ []))

-- what the pass has not reached stands as it stood
pub swept_row : (stays : ℕ → Bool) (s₀ s : List ℕ) (i w : ℕ) → i < 256 → Swept stays s₀ s i w → row_at s i ≡ row_at s₀ i
swept_row stays s₀ s i w h p = row_same s₀ s i i h h (λ k l. p.above (i * 3 + 65 + k) (omega arith))

-- one row more stays or falls
module _ {stays : ℕ → Bool} {s₀ s : List ℕ} {i w : ℕ} (small : i < 256) (p : Swept stays s₀ s i w) where
  more : staying stays s₀ (i + 1) ≡ cond (stays i) (first_rows s w ++ (row_at s i ∷ [])) (first_rows s w)
  unfolding staying
  more = ap (staying stays s₀) (add-one i) ∙ (λ k. cond (stays i) (sym p.rows k ++ (sym (swept_row stays s₀ s i w small p) k ∷ [])) (sym p.rows k))

  swept_stays : {s' : List ℕ} → stays i ≡ true → Moved s s' (row_place i) (row_place w) 3 → Swept stays s₀ s' (i + 1) (w + 1)
  swept_stays {s'} e m =
      record {
        within = omega (arith, p.within);
        size = m.size ∙ p.size;
        below = λ k l. m.below k (omega arith) ∙ p.below k l;
        above = λ k l. m.above k (omega (arith, p.within)) ∙ p.above k (omega arith);
        rows = kept-rows s s' w i p.within small m ∙ sym (more ∙ ap (λ (b : Bool). cond b (first_rows s w ++ (row_at s i ∷ [])) (first_rows s w)) e);
      }

  swept_falls : stays i ≡ false → Swept stays s₀ s (i + 1) w
  swept_falls e =
      record {
        within = omega (arith, p.within);
        size = p.size;
        below = p.below;
        above = λ k l. p.above k (omega arith);
        rows = sym (more ∙ ap (λ (b : Bool). cond b (first_rows s w ++ (row_at s i ∷ [])) (first_rows s w)) e);
      }

-- ── what a test says of the rows ──

staying_same : (a b : ℕ → Bool) (s : List ℕ) (n : ℕ) → ((i : ℕ) → i < n → a i ≡ b i) → staying a s n ≡ staying b s n
unfolding staying
staying_same a b s zero e = refl
staying_same a b s (suc n) e = let before = staying_same a b s n (λ i l. e i (omega arith)) in λ k. cond (e n (omega arith) k) (before k ++ (row_at s n ∷ [])) (before k)

-- the test has said of the first i rows which stay
pub record Passing (said : ℕ → Row → Bool → Type 0) (s₀ s : List ℕ) (i w : ℕ) : Type 0 where
  pub says : ℕ → Bool
  pub of_each : (k : ℕ) → k < i → said k (row_at s₀ k) (says k)
  pub swept : Swept says s₀ s i w

pub passing_none : (said : ℕ → Row → Bool → Type 0) (s : List ℕ) → Passing said s s 0 0
passing_none said s = record { says = λ k. false; of_each = λ k l. absurd (omega arith); swept = swept_none (λ k. false) s }

module _ {said : ℕ → Row → Bool → Type 0} {s₀ s : List ℕ} {i w : ℕ} (small : i < 256) (p : Passing said s₀ s i w) {r : Row} (e : r ≡ row_at s i) {b : Bool} (now : said i r b) where
  -- what was said before, and of row i what is said now
  says : ℕ → Bool
  says k = cond (eqb k i) b (p.says k)

  says_now : (k : ℕ) → k ≡ i → says k ≡ b
  unfolding says
  says_now k h = ap (λ (t : Bool). cond t b (p.says k)) (eq-eqb k i h)

  says_before : (k : ℕ) → k < i → says k ≡ p.says k
  unfolding says
  says_before k l = ap (λ (t : Bool). cond t b (p.says k)) (ne_eqb k i (λ h. omega (arith, h)))

  of_each : (k : ℕ) → k < i + 1 → said k (row_at s₀ k) (says k)
  of_each k l = go (eq_or_ne k i)
    where
      go : (k ≡ i) ⊎ (k ≢ i) → said k (row_at s₀ k) (says k)
      go (inl h) = subst⁻¹ (λ (n : ℕ). said n (row_at s₀ n) (says n)) h (subst⁻¹ (said i (row_at s₀ i)) (says_now i refl) (subst (λ (x : Row). said i x b) (e ∙ swept_row p.says s₀ s i w small p.swept) now))
      go (inr h) = let before : k < i = omega (arith, h) in subst⁻¹ (said k (row_at s₀ k)) (says_before k before) (p.of_each k before)

  swept : Swept says s₀ s i w
  swept =
      record {
        within = p.swept.within;
        size = p.swept.size;
        below = p.swept.below;
        above = p.swept.above;
        rows = p.swept.rows ∙ sym (staying_same says p.says s₀ i says_before);
      }

  pub passing_stays : {s' : List ℕ} → b ≡ true → Moved s s' (row_place i) (row_place w) 3 → Passing said s₀ s' (i + 1) (w + 1)
  passing_stays t m = record { says = says; of_each = of_each; swept = swept_stays small swept (says_now i refl ∙ t) m }

  pub passing_falls : b ≡ false → Passing said s₀ s (i + 1) w
  passing_falls t = record { says = says; of_each = of_each; swept = swept_falls small swept (says_now i refl ∙ t) }

-- zeros behind the rows kept, and the count
pub closed : (s z : List ℕ) (w n : ℕ) → length s ≡ 1602 → w ≤ n → n ≤ 256 → Zeroed s z (w * 3 + 65) (n * 3 + 65) → Closed s (set z 64 w) w n (n - w)
closed s z w n e h l zs =
    record {
      size = length-set z 64 w ∙ zs.size;
      count = get_or-set_same z 64 w 0 (omega (arith, zs.size));
      below = λ k a. other k (omega arith) ∙ zs.below k (omega arith);
      kept = λ k a b. other k (omega arith) ∙ zs.below k b;
      zeros = λ k a b. other k (omega arith) ∙ zs.inside k a b;
      above = λ k a. other k (omega arith) ∙ zs.above k a;
      lost_count = omega arith;
    }
  where
    other : (k : ℕ) → k ≢ 64 → get_or (set z 64 w) k 0 ≡ get_or z k 0
    other k m = get_or-set_other z 64 k w 0 m

-- the pass is over, and the table is closed behind the rows kept
pub swept_closed : (stays : ℕ → Bool) (rows : List Row) (s₀ s s' : List ℕ) (i w n lost : ℕ) → Formed s₀ → i ≡ row_count s₀ → n ≡ row_count s₀ → staying stays s₀ (row_count s₀) ≡ rows → Swept stays s₀ s i w → Closed s s' w n lost → RowsLeft s₀ s' rows lost
unfolding decode first_rows
swept_closed stays rows s₀ s s' i w n lost f all-of-them too are p c =
    record {
      state = as_encoded s' (with_rows (decode s₀) rows) form (λ j. record { facts = facts j; rows = new j; certificates = certificates j });
      count = omega (arith, ap length kept_are, length-entries row_from 3 (row_numbers s) w, length-entries row_from 3 (row_numbers s₀) (row_count s₀), c.lost_count);
    }
  where
    size : length s' ≡ length s₀
    size = c.size ∙ p.size

    low : (k : ℕ) → k < 64 → get_or s' k 0 ≡ get_or s₀ k 0
    low k h = c.below k h ∙ p.below k (omega arith)

    high : (k : ℕ) → row_place (row_count s₀) ≤ k → get_or s' k 0 ≡ get_or s₀ k 0
    high k h = c.above k (omega arith) ∙ p.above k (omega arith)

    facts : fact_numbers s' ≡ fact_numbers s₀
    facts = facts-kept s₀ s' size low

    certificates : (decode s').certificates ≡ (decode s₀).certificates
    certificates = certificates-kept s₀ s' size (λ k h. high k (omega (arith, f.rows)))

    kept_are : first_rows s w ≡ rows
    kept_are = p.rows ∙ ap (staying stays s₀) all-of-them ∙ are

    new : first_rows s' (row_count s') ≡ rows
    new = ap (first_rows s') c.count ∙ rows-first-same s s' w (omega (arith, p.within, f.rows)) (λ j a b. c.kept j a b) ∙ kept_are

    zeros : (k : ℕ) → row_count s' * 3 + 65 ≤ k → k < 833 → (k < row_place (row_count s₀)) ⊎ (row_place (row_count s₀) ≤ k) → get_or s' k 0 ≡ 0
    zeros k a b (inl h) = c.zeros k (omega (arith, c.count)) (omega arith)
    zeros k a b (inr h) = high k h ∙ f.rows_end k h b

    form : Formed s'
    form =
        record {
          size = size ∙ f.size;
          bits = λ k h. subst⁻¹ (λ (n : ℕ). n ≤ 1) (low k h) (f.bits k h);
          rows = omega (arith, c.count, p.within, f.rows);
          certificates = subst⁻¹ (λ (n : ℕ). n ≤ 256) (high 833 (omega (arith, f.rows))) f.certificates;
          rows_end = λ k a b. zeros k a b (lt_or_ge k (row_place (row_count s₀)));
          certificates_end = λ k a. high k (omega (arith, f.rows)) ∙ f.certificates_end k (omega (arith, high 833 (omega (arith, f.rows))));
        }

pub passing_read : {said : ℕ → Row → Bool → Type 0} {s₀ s s' : List ℕ} {i w w' : ℕ} → s ≡ s' → w ≡ w' → Passing said s₀ s' i w' → Passing said s₀ s i w
passing_read {said} {s₀} {s} {s'} {i} {w} {w'} e d p = subst⁻¹ (λ (l : List ℕ). Passing said s₀ l i w) e (subst⁻¹ (λ (n : ℕ). Passing said s₀ s' i n) d p)

pub passing_closed : {said : ℕ → Row → Bool → Type 0} {s₀ s s' : List ℕ} {w n lost : ℕ} → Formed s₀ → n ≡ row_count s₀ → (i : ℕ) → i ≡ n → Passing said s₀ s i w → Closed s s' w n lost → RowsKept said s₀ s' lost
passing_closed {said} {s₀} {s} {s'} {w} {n} {lost} f too i all-of-them p c =
    record {
      says = p.says;
      of_each = λ k l. p.of_each k (omega arith);
      left = swept_closed p.says (staying p.says s₀ (row_count s₀)) s₀ s s' i w n lost f (all-of-them ∙ too) too refl p.swept c;
    }

-- where the test always says the same, those are left of which it says so
pub kept_as : {said : ℕ → Row → Bool → Type 0} {s s' : List ℕ} {lost : ℕ} {rows : List Row} (stays : ℕ → Bool) → RowsKept said s s' lost
    → ((i : ℕ) → i < row_count s → (b : Bool) → said i (row_at s i) b → b ≡ stays i) → staying stays s (row_count s) ≡ rows → RowsLeft s s' rows lost
kept_as {said} {s} {s'} {lost} stays k same e =
    subst (λ (l : List Row). RowsLeft s s' l lost) (staying_same k.says stays s (row_count s) (λ i l. same i l (k.says i) (k.of_each i l)) ∙ e) k.left

-- where there are no rows, none is left, and nothing changes
pub none_left : (ok : List Row → Row → Bool) (s : List ℕ) → Formed s → row_count s ≡ 0 → RowsLeft s s (left ok (decode s).rows) 0
unfolding decode first_rows left
none_left ok s f e =
    record {
      state = as_encoded s (with_rows (decode s) (left ok (decode s).rows)) f (λ j. with_rows (decode s) (same j));
      count = omega (arith, ap length same);
    }
  where
    none : (decode s).rows ≡ []
    none = ap (first_rows s) e

    same : (decode s).rows ≡ left ok (decode s).rows
    same = none ∙ sym (ap (left ok) none)

-- ── which rows stay ──

-- those that were not said to fall are what is left
pub staying-left : (w : World) (s : List ℕ) (verdicts : List (Option Verdict)) → Judged w s verdicts → (n : ℕ) → n ≤ row_count s → staying (is_kept verdicts) s n ≡ left (supported w) (first_rows s n)
unfolding staying left first_rows
staying-left w s verdicts j zero h = refl
staying-left w s verdicts j (suc n) h = step (staying-left w s verdicts j n (omega arith))
  where
    by : (b c : Bool) → not_falling (Some (cond b (cond c Twice Stays) Falls)) ≡ b
    by true true = refl
    by true false = refl
    by false c = refl

    said : is_kept verdicts n ≡ supported w (kept w s n) (row_at s n)
    said = ap not_falling (j.said n (omega arith)) ∙ by (supported w (kept w s n) (row_at s n)) (active (kept w s n) (row_at s n).user (row_at s n).role)

    step : staying (is_kept verdicts) s n ≡ left (supported w) (first_rows s n) → staying (is_kept verdicts) s (suc n) ≡ left (supported w) (first_rows s (suc n))
    step e = (λ k. cond (said k) (e k ++ (row_at s n ∷ [])) (e k)) ∙ sym (ap (left (supported w)) (rows_more s n) ∙ left_last (supported w) (first_rows s n) (row_at s n))

without_last : (gone : Row → Bool) (rows : List Row) (r : Row) → without gone (rows ++ (r ∷ [])) ≡ cond (not (gone r)) (without gone rows ++ (r ∷ [])) (without gone rows)
without_last gone rows r = without-append gone rows (r ∷ []) ∙ go (gone r)
  where
    go : (b : Bool) → (without gone rows ++ cond b [] (r ∷ [])) ≡ cond (not b) (without gone rows ++ (r ∷ [])) (without gone rows)
    go true = append-nil (without gone rows)
    go false = refl

-- those that a test does not take are those without the ones that it takes
pub staying-without : (gone : Row → Bool) (s : List ℕ) (n : ℕ) → staying (λ (i : ℕ). not (gone (row_at s i))) s n ≡ without gone (first_rows s n)
unfolding staying first_rows
staying-without gone s zero = refl
staying-without gone s (suc n) = (λ k. cond (not (gone (row_at s n))) (staying-without gone s n k ++ (row_at s n ∷ [])) (staying-without gone s n k)) ∙ sym (ap (without gone) (rows_more s n) ∙ without_last gone (first_rows s n) (row_at s n))

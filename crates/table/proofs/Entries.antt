-- The laws by which loops over tables are proved: one entry more, an entry found, an entry missed; what stands at each place; and
-- what a well formed state keeps to.
use Prim.Native.Nat.{ℕ, zero, suc, ◌+◌, ◌*◌, ◌/◌, ◌≤◌, ◌<◌}
use mathlib.Core.Path.{◌≡◌, sym, ap, ◌∙◌, subst}
use mathlib.Core.Bool.{Bool, true, false, ◌||◌}
use mathlib.Core.Logic.{◌⊎◌, inl, inr}
use mathlib.Core.List.{List, [], ◌∷◌, ◌++◌, Memᴰ}
use native.Mathlib.Omega.{arith}
use native.Mathlib.Nat.{suc-mul, zero-mul, add_comm}
use native.Mathlib.Numerals.{add-one}
use lib.Dec.{T}
use lib.ListN.{length, get_or, take, drop, replicate, length-replicate, get_or-eq_default, length-map}
use lib.Seq.{get_or-take, get_or-drop, drop-drop, ext_get_or}
use Rattle.std.specs.Array.{AllOfLen}
use Rattle.model.specs.Lists.{any, rows_of}
use Rattle.model.specs.Layout.{row_from, row_numbers}
use Rattle.model.specs.Sound.{well_formed}
use Rattle.model.proofs.Tests.{lt_or_ge, at_place, is_true, of_true, any_append, of_any, repeated}
use Rattle.model.proofs.Numbers.{length-rows, formed_size, formed_rows, formed_certificates}
use Rattle.table.specs.Entries.{entry, entries, right_at, row_at, first_rows, certificate_at, Sized}

-- ── one entry more ──

module _ {A : Type 0} (from : List ℕ → A) (width : ℕ) where
  pub entries_next : (table : List ℕ) (k : ℕ) → entries from width table (suc k) ≡ entries from width table k ++ (entry from width table k ∷ [])
  entries_next table zero = ap (λ (l : List ℕ). from (take width l) ∷ []) (sym (ap (λ (n : ℕ). drop n table) (zero-mul width)))
  entries_next table (suc k) =
      ap (λ (l : List A). from (take width table) ∷ l) (entries_next (drop width table) k)
      ∙ ap (λ (l : List ℕ). from (take width table) ∷ (entries from width (drop width table) k ++ (from (take width l) ∷ []))) (drop-drop (k * width) width table ∙ ap (λ (n : ℕ). drop n table) (add_comm width (k * width) ∙ sym (suc-mul k width)))

  -- the same, as a loop counts
  pub entries_more : (table : List ℕ) (k : ℕ) → entries from width table (k + 1) ≡ entries from width table k ++ (entry from width table k ∷ [])
  entries_more table k = ap (entries from width table) (add-one k) ∙ entries_next table k

  pub length-entries : (table : List ℕ) (k : ℕ) → length (entries from width table k) ≡ k
  length-entries table k = length-map (rows_of width k table) from ∙ length-rows width k table

  -- entry i is among the first n, at its place
  pub entry_in : (table : List ℕ) (n i : ℕ) (d : A) → i < n → get_or (entries from width table n) i d ≡ entry from width table i
  entry_in table zero i d h = absurd (omega arith)
  entry_in table (suc n) zero d h = ap (λ (l : List ℕ). from (take width l)) (sym (ap (λ (n : ℕ). drop n table) (zero-mul width)))
  entry_in table (suc n) (suc i) d h = entry_in (drop width table) n i d (omega arith) ∙ ap (λ (l : List ℕ). from (take width l)) (drop-drop (i * width) width table ∙ ap (λ (n : ℕ). drop n table) (add_comm width (i * width) ∙ sym (suc-mul i width)))

  pub entry-out : (table : List ℕ) (n i : ℕ) (d : A) → n ≤ i → get_or (entries from width table n) i d ≡ d
  entry-out table n i d h = get_or-eq_default (entries from width table n) d {n = i} (omega (arith, length-entries table n))

  -- what is read of a table at any number, with d where it has no row
  pub numbered : (table : List ℕ) (i : ℕ) (d r : A) → (i < length table / width → r ≡ entry from width table i) → (length table / width ≤ i → r ≡ d) → r ≡ get_or (entries from width table (length table / width)) i d
  numbered table i d r there beyond = go (lt_or_ge i (length table / width))
    where
      go : (i < length table / width) ⊎ (length table / width ≤ i) → r ≡ get_or (entries from width table (length table / width)) i d
      go (inl h) = there h ∙ sym (entry_in table (length table / width) i d h)
      go (inr h) = beyond h ∙ sym (entry-out table (length table / width) i d h)

  pub entry-member : (table : List ℕ) (n i : ℕ) → i < n → Memᴰ (entry from width table i) (entries from width table n)
  entry-member table n i h =
      subst (λ (x : A). Memᴰ x (entries from width table n)) (entry_in table n i (entry from width table i) h) (at_place (entries from width table n) i (entry from width table i) (omega (arith, length-entries table n)))

  -- ── a loop that looks for an entry that passes ──

  pub any_next : (test : A → Bool) (table : List ℕ) (j : ℕ) → any test (entries from width table j) ≡ false → test (entry from width table j) ≡ false → any test (entries from width table (j + 1)) ≡ false
  any_next test table j a b = ap (any test) (entries_more table j) ∙ any_append test (entries from width table j) (entry from width table j ∷ []) ∙ (λ i. a i || (b i || false))

  pub any_hit : (test : A → Bool) (table : List ℕ) (n j : ℕ) → j < n → test (entry from width table j) ≡ true → any test (entries from width table n) ≡ true
  any_hit test table n j h e = is_true (any test (entries from width table n)) (of_any test (entry from width table j) (entries from width table n) (entry-member table n j h) (of_true (test (entry from width table j)) e))

-- the rows up to k, with row k behind them
pub rows_more : (s : List ℕ) (k : ℕ) → first_rows s (suc k) ≡ first_rows s k ++ (row_at s k ∷ [])
unfolding first_rows row_at
rows_more s k = entries_next row_from 3 (row_numbers s) k

-- so many numbers by default
pub zeros : (xs : List ℕ) (n : ℕ) → AllOfLen (λ (x : ℕ). x ≡ 0) xs n → xs ≡ replicate n 0
zeros xs n z = ext_get_or 0 xs (replicate n 0) (z.long ∙ sym (length-replicate n 0)) (λ i h. z.at i 0 (omega (arith, z.long)) ∙ sym (repeated 0 n i))

-- ── what stands at each place ──

-- number k of a row
row_number : (l : List ℕ) (b w k : ℕ) → k < w → get_or (take w (drop b l)) k 0 ≡ get_or l (b + k) 0
row_number l b w k h = get_or-take w (drop b l) k 0 h ∙ get_or-drop b l k 0

first-number : (l : List ℕ) (b w : ℕ) → 0 < w → get_or (take w (drop b l)) 0 0 ≡ get_or l b 0
first-number l b w h = let e : b + 0 ≡ b = omega arith in row_number l b w 0 h ∙ ap (λ (p : ℕ). get_or l p 0) e

module _ (l : List ℕ) (i : ℕ) where
  pub right_places : right_at l i ≡ record { role = get_or l (i * 2) 0; privilege = get_or l (i * 2 + 1) 0 }
  unfolding right_at
  right_places = λ j. record { role = first-number l (i * 2) 2 (omega arith) j; privilege = row_number l (i * 2) 2 1 (omega arith) j }

-- number k of entry i of a table of 256 rows of 3 that stands at a place of the state
table_number : (s : List ℕ) (place i k : ℕ) → i < 256 → k < 3 → get_or (take 3 (drop (i * 3) (take 768 (drop place s)))) k 0 ≡ get_or s (i * 3 + place + k) 0
table_number s place i k h m =
    let e : place + (i * 3 + k) ≡ i * 3 + place + k = omega arith in
    row_number (take 768 (drop place s)) (i * 3) 3 k m ∙ get_or-take 768 (drop place s) (i * 3 + k) 0 (omega arith) ∙ get_or-drop place s (i * 3 + k) 0 ∙ ap (λ (p : ℕ). get_or s p 0) e

first_table_number : (s : List ℕ) (place i : ℕ) → i < 256 → get_or (take 3 (drop (i * 3) (take 768 (drop place s)))) 0 0 ≡ get_or s (i * 3 + place) 0
first_table_number s place i h = let e : i * 3 + place + 0 ≡ i * 3 + place = omega arith in table_number s place i 0 h (omega arith) ∙ ap (λ (p : ℕ). get_or s p 0) e

module _ (s : List ℕ) (i : ℕ) (h : i < 256) where
  pub row_places : row_at s i ≡ record { user = get_or s (i * 3 + 65) 0; role = get_or s (i * 3 + 65 + 1) 0; rule = get_or s (i * 3 + 65 + 2) 0 }
  unfolding row_at
  row_places = λ j. record { user = first_table_number s 65 i h j; role = table_number s 65 i 1 h (omega arith) j; rule = table_number s 65 i 2 h (omega arith) j }

  pub certificate_places : certificate_at s i ≡ record { appointee = get_or s (i * 3 + 834) 0; kind = get_or s (i * 3 + 834 + 1) 0; appointer = get_or s (i * 3 + 834 + 2) 0 }
  unfolding certificate_at
  certificate_places = λ j. record { appointee = first_table_number s 834 i h j; kind = table_number s 834 i 1 h (omega arith) j; appointer = table_number s 834 i 2 h (omega arith) j }

-- ── a well formed state ──

pub sized : (s : List ℕ) → well_formed s ≡ true → Sized s
sized s e =
    let t : T (well_formed s) = of_true (well_formed s) e in
    record { size = formed_size s t; rows = formed_rows s t; certificates = formed_certificates s t }

-- The form of a state by its places, and its values by its places: what a change by places leaves, over values.
use Prim.Native.Nat.{ℕ, zero, suc, ◌+◌, ◌*◌, ◌-◌, ◌≤◌, ◌<◌}
use mathlib.Core.Path.{◌≡◌, refl, sym, ap, ◌∙◌, subst, subst⁻¹}
use mathlib.Core.Bool.{Bool, true}
use mathlib.Core.Logic.{◌⊎◌, inl, inr}
use mathlib.Core.List.{List, [], ◌∷◌, ◌++◌}
use native.Mathlib.Omega.{arith}
use lib.Dec.{T, eqb, eqb→eq, leb→le, le→leb}
use lib.ListN.{length, get_or, take, drop, length-take, length-drop, get_or-eq_default}
use lib.Seq.{get_or-take, get_or-drop, ext_get_or, length-take-le}
use Rattle.model.specs.Lists.{all, is_zero, is_bit}
use Rattle.model.specs.Limits.{most_rows, most_certificates, state_size}
use Rattle.model.specs.Values.{State}
use Rattle.model.specs.Layout.{decode, encode, row_count, certificate_count, fact_numbers, row_numbers, certificate_numbers, row_from, certificate_from}
use Rattle.model.specs.Sound.{form_clauses, well_formed}
use Rattle.model.specs.declared.Row.{Row}
use Rattle.model.specs.declared.Certificate.{Certificate}
use Rattle.model.proofs.Tests.{lt_or_ge, of_true, and_both, each, of_each, all_of, at_place}
use Rattle.model.proofs.Numbers.{encode-decode}
use Rattle.table.specs.Entries.{entry, entries, row_at, first_rows, certificate_at, first_certificates}
use Rattle.table.proofs.Entries.{entries_next, row_places, certificate_places, sized}

-- ── tests of all, by places ──

all-place : (test : ℕ → Bool) (l : List ℕ) (i : ℕ) → T (all test l) → i < length l → T (test (get_or l i 0))
all-place test l i t h = all_of test l t (get_or l i 0) (at_place l i 0 h)

place-all : (test : ℕ → Bool) (l : List ℕ) → ((i : ℕ) → i < length l → T (test (get_or l i 0))) → T (all test l)
place-all test [] h = tt
place-all test (x ∷ l) h = and_both (test x) (all test l) (h 0 (omega arith)) (place-all test l (λ i k. h (suc i) (omega arith)))

-- ── the form ──

-- the state has its length, its facts are 0 or 1, its counts are within the tables, and nothing stands past them
pub record Formed (s : List ℕ) : Type 0 where
  pub size : length s ≡ state_size
  pub bits : (k : ℕ) → k < 64 → get_or s k 0 ≤ 1
  pub rows : row_count s ≤ most_rows
  pub certificates : certificate_count s ≤ most_certificates
  pub rows_end : (k : ℕ) → row_count s * 3 + 65 ≤ k → k < 833 → get_or s k 0 ≡ 0
  pub certificates_end : (k : ℕ) → certificate_count s * 3 + 834 ≤ k → get_or s k 0 ≡ 0

-- number i behind the first a of a table at a place of the state
behind : (s : List ℕ) (place a i : ℕ) → a + i < 768 → get_or (drop a (take 768 (drop place s))) i 0 ≡ get_or s (place + (a + i)) 0
behind s place a i h = get_or-drop a (take 768 (drop place s)) i 0 ∙ get_or-take 768 (drop place s) (a + i) 0 h ∙ get_or-drop place s (a + i) 0

table_size : (s : List ℕ) (place : ℕ) → length s ≡ state_size → place + 768 ≤ state_size → length (take 768 (drop place s)) ≡ 768
table_size s place e h = length-take-le 768 (drop place s) (simp length-drop (omega arith))

-- zeros behind a table's first a numbers, as a test and by places
zeros-behind : (s : List ℕ) (place a : ℕ) → length s ≡ state_size → place + 768 ≤ state_size → T (all is_zero (drop a (take 768 (drop place s)))) → (k : ℕ) → a + place ≤ k → k < place + 768 → get_or s k 0 ≡ 0
zeros-behind s place a e h t k l m =
    let i = k - (a + place) in
    let q : place + (a + i) ≡ k = omega arith in
    ap (λ (n : ℕ). get_or s n 0) (sym q)
    ∙ sym (behind s place a i (omega arith))
    ∙ eqb→eq _ 0 (all-place is_zero (drop a (take 768 (drop place s))) i t (simp length-drop (omega (arith, table_size s place e h))))

behind-zeros : (s : List ℕ) (place a : ℕ) → length s ≡ state_size → place + 768 ≤ state_size → ((k : ℕ) → a + place ≤ k → k < place + 768 → get_or s k 0 ≡ 0) → T (all is_zero (drop a (take 768 (drop place s))))
behind-zeros s place a e h z =
    place-all is_zero (drop a (take 768 (drop place s)))
    (λ i l.
    let j : a + i < 768 = omega (arith, length-drop a (take 768 (drop place s)), table_size s place e h) in
    subst⁻¹ (λ (n : ℕ). T (is_zero n)) (behind s place a i j ∙ z (place + (a + i)) (omega arith) (omega arith)) tt)

-- past the certificates, the state's end too, there is nothing
past_certificates : (s : List ℕ) → length s ≡ state_size → T (all is_zero (drop (certificate_count s * 3) (take 768 (drop 834 s)))) → (k : ℕ) → certificate_count s * 3 + 834 ≤ k → (k < 1602) ⊎ (1602 ≤ k) → get_or s k 0 ≡ 0
past_certificates s e t k a (inl h) = zeros-behind s 834 (certificate_count s * 3) e (omega arith) t k a h
past_certificates s e t k a (inr h) = get_or-eq_default s 0 {n = k} (omega arith)

pub formed : (s : List ℕ) → well_formed s ≡ true → Formed s
unfolding form_clauses
formed s w =
    let t = each (form_clauses s) (of_true (well_formed s) w) in
    let z = sized s w in
    let e : length s ≡ state_size = z.size in
    record {
      size = e;
      bits = λ k h. subst (λ (n : ℕ). n ≤ 1) (get_or-take 64 s k 0 h) (leb→le _ 1 (all-place is_bit (take 64 s) k t.1.0 (omega (arith, length-take-le 64 s (omega arith)))));
      rows = z.rows;
      certificates = z.certificates;
      rows_end = λ k a b. zeros-behind s 65 (row_count s * 3) e (omega arith) t.1.1.1.1.0 k a b;
      certificates_end = λ k a. past_certificates s e t.1.1.1.1.1.0 k a (lt_or_ge k 1602);
    }

of_formed : (s : List ℕ) → Formed s → T (well_formed s)
unfolding form_clauses
of_formed s f =
    of_each (form_clauses s) (
      subst⁻¹ (λ (n : ℕ). T (eqb n state_size)) f.size tt,
      (
        place-all is_bit (take 64 s) (λ i h. subst⁻¹ (λ (n : ℕ). T (is_bit n)) (get_or-take 64 s i 0 (omega (arith, length-take-le 64 s (omega (arith, f.size))))) (le→leb (get_or s i 0) 1 (f.bits i (omega (arith, length-take-le 64 s (omega (arith, f.size))))))),
        (
          le→leb (row_count s) most_rows f.rows,
          (
            le→leb (certificate_count s) most_certificates f.certificates,
            (
              behind-zeros s 65 (row_count s * 3) f.size (omega arith) (λ k a b. f.rows_end k a b),
              (
                behind-zeros s 834 (certificate_count s * 3) f.size (omega arith) (λ k a b. f.certificates_end k a),
                tt,
              ),
            ),
          ),
        ),
      ),
    )

-- numbers of that form are what their value encodes to
pub as_encoded : (s : List ℕ) (t : State) → Formed s → decode s ≡ t → s ≡ encode t
as_encoded s t f e = sym (encode-decode s (of_formed s f)) ∙ ap encode e

-- ── values by places ──

part_same : (s s' : List ℕ) (place n : ℕ) → length s' ≡ length s → ((k : ℕ) → k < n → get_or s' (place + k) 0 ≡ get_or s (place + k) 0) → take n (drop place s') ≡ take n (drop place s)
part_same s s' place n e h =
    ext_get_or 0 (take n (drop place s')) (take n (drop place s)) (simp (length-take, length-drop) (omega arith))
    (λ i l.
    let j : i < n = omega (arith, length-take n (drop place s')) in
    get_or-take n (drop place s') i 0 j ∙ get_or-drop place s' i 0 ∙ h i j ∙ sym (get_or-drop place s i 0) ∙ sym (get_or-take n (drop place s) i 0 j))

pub facts-kept : (s s' : List ℕ) → length s' ≡ length s → ((k : ℕ) → k < 64 → get_or s' k 0 ≡ get_or s k 0) → fact_numbers s' ≡ fact_numbers s
facts-kept s s' e h = part_same s s' 0 64 e (λ k l. let q : 0 + k ≡ k = omega arith in ap (λ (n : ℕ). get_or s' n 0) q ∙ h k l ∙ ap (λ (n : ℕ). get_or s n 0) (sym q))

pub certificates-kept : (s s' : List ℕ) → length s' ≡ length s → ((k : ℕ) → 833 ≤ k → get_or s' k 0 ≡ get_or s k 0) → (decode s').certificates ≡ (decode s).certificates
unfolding decode
certificates-kept s s' e h = λ i. entries certificate_from 3 (part_same s s' 834 768 e (λ k l. h (834 + k) (omega arith)) i) (h 833 (omega arith) i)

pub rows-kept : (s s' : List ℕ) → length s' ≡ length s → ((k : ℕ) → 64 ≤ k → k < 833 → get_or s' k 0 ≡ get_or s k 0) → (decode s').rows ≡ (decode s).rows
unfolding decode
rows-kept s s' e h = λ i. entries row_from 3 (part_same s s' 65 768 e (λ k l. h (65 + k) (omega arith) (omega arith)) i) (h 64 (omega arith) (omega arith) i)

-- three numbers at entry i of a table, as what they make
module _ {A : Type 0} (make : ℕ → ℕ → ℕ → A) (place : ℕ) where
  abbrev pub three_at : List ℕ → ℕ → A
  three_at s i = make (get_or s (i * 3 + place) 0) (get_or s (i * 3 + place + 1) 0) (get_or s (i * 3 + place + 2) 0)

  three_same : (s s' : List ℕ) (i j : ℕ) → ((k : ℕ) → k < 3 → get_or s' (j * 3 + place + k) 0 ≡ get_or s (i * 3 + place + k) 0) → three_at s' j ≡ three_at s i
  three_same s s' i j h = λ t. make (first t) (h 1 (omega arith) t) (h 2 (omega arith) t)
    where
      first : get_or s' (j * 3 + place) 0 ≡ get_or s (i * 3 + place) 0
      first =
          let p : j * 3 + place ≡ j * 3 + place + 0 = omega arith in
          let q : i * 3 + place + 0 ≡ i * 3 + place = omega arith in
          ap (λ (n : ℕ). get_or s' n 0) p ∙ h 0 (omega arith) ∙ ap (λ (n : ℕ). get_or s n 0) q

abbrev pub make_row : ℕ → ℕ → ℕ → Row
make_row u q i = record { user = u; role = q; rule = i }

abbrev pub make_certificate : ℕ → ℕ → ℕ → Certificate
make_certificate u k a = record { appointee = u; kind = k; appointer = a }

pub row_same : (s s' : List ℕ) (i j : ℕ) → i < 256 → j < 256 → ((k : ℕ) → k < 3 → get_or s' (j * 3 + 65 + k) 0 ≡ get_or s (i * 3 + 65 + k) 0) → row_at s' j ≡ row_at s i
row_same s s' i j a b h = row_places s' j b ∙ three_same make_row 65 s s' i j h ∙ sym (row_places s i a)

pub certificate-same : (s s' : List ℕ) (i j : ℕ) → i < 256 → j < 256 → ((k : ℕ) → k < 3 → get_or s' (j * 3 + 834 + k) 0 ≡ get_or s (i * 3 + 834 + k) 0) → certificate_at s' j ≡ certificate_at s i
certificate-same s s' i j a b h = certificate_places s' j b ∙ three_same make_certificate 834 s s' i j h ∙ sym (certificate_places s i a)

-- tables that agree in their first entries
entries-same : {A : Type 0} (from : List ℕ → A) (width : ℕ) (t t' : List ℕ) (k : ℕ) → ((i : ℕ) → i < k → entry from width t' i ≡ entry from width t i) → entries from width t' k ≡ entries from width t k
entries-same from width t t' zero h = refl
entries-same from width t t' (suc k) h = entries_next from width t' k ∙ (λ i. entries-same from width t t' k (λ j l. h j (omega arith)) i ++ (h k (omega arith) i ∷ [])) ∙ sym (entries_next from width t k)

pub rows-first-same : (s s' : List ℕ) (k : ℕ) → k ≤ 256 → ((j : ℕ) → 65 ≤ j → j < k * 3 + 65 → get_or s' j 0 ≡ get_or s j 0) → first_rows s' k ≡ first_rows s k
unfolding first_rows row_at
rows-first-same s s' k b h = entries-same row_from 3 (row_numbers s) (row_numbers s') k (λ i l. row_same s s' i i (omega arith) (omega arith) (λ j m. h (i * 3 + 65 + j) (omega arith) (omega arith)))

pub certificates-first-same : (s s' : List ℕ) (k : ℕ) → k ≤ 256 → ((j : ℕ) → 834 ≤ j → j < k * 3 + 834 → get_or s' j 0 ≡ get_or s j 0) → first_certificates s' k ≡ first_certificates s k
unfolding first_certificates certificate_at
certificates-first-same s s' k b h = entries-same certificate_from 3 (certificate_numbers s) (certificate_numbers s') k (λ i l. certificate-same s s' i i (omega arith) (omega arith) (λ j m. h (i * 3 + 834 + j) (omega arith) (omega arith)))

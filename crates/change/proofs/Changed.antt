-- What a change by places leaves, over values.
use Prim.Native.Nat.{ℕ, zero, suc, ◌+◌, ◌*◌, ◌-◌, ◌≤◌, ◌<◌}
use mathlib.Core.Path.{◌≡◌, sym, ap, ◌∙◌, subst⁻¹}
use mathlib.Core.Logic.{◌≢◌, ◌⊎◌, inl, inr}
use mathlib.Core.List.{List, [], ◌∷◌, ◌++◌}
use native.Mathlib.Omega.{arith}
use native.Mathlib.Numerals.{add-one}
use lib.ListN.{length, get_or, set, take, drop, replicate, length-set}
use lib.Seq.{get_or-set_same, get_or-set_other, take-set-lt, ext_get_or}
use Rattle.model.specs.Values.{with_rows, with_certificates, with_fact}
use Rattle.model.specs.Layout.{decode, encode, row_count, certificate_count, certificate_from, certificate_numbers, from_row, from_certificate}
use Rattle.model.specs.declared.Row.{Row}
use Rattle.model.specs.declared.Certificate.{Certificate}
use Rattle.std.proofs.Common.{rules}
use Rattle.std.proofs.lemmas.List.{places}
use borrow.Rule.Slice.PartMut.{put_mid}
use Rattle.model.proofs.Tests.{lt_or_ge, repeated}
use Rattle.table.specs.Entries.{row_at, first_rows, certificate_at, first_certificates}
use Rattle.table.proofs.Entries.{entries_more, row_places, certificate_places, entry_in, length-entries, rows_more}
use Rattle.table.specs.Writes.{Moved, Zeroed}
use Rattle.table.proofs.Form.{three_at, make_row, make_certificate, Formed, as_encoded, facts-kept, certificates-kept, rows-kept, rows-first-same, certificate-same, certificates-first-same}
use Rattle.change.specs.Appended.{Appended}

-- ── numbers that are written over others, from a place on ──

module _ (s ys : List ℕ) (a k : ℕ) (fits : a + k ≤ length s) (long : length ys ≡ k) where
  written_size : length (put_mid a k s ys) ≡ length s
  written_size = search (rules, places)

  under : (i : ℕ) → i < a → get_or (put_mid a k s ys) i 0 ≡ get_or s i 0
  under i h = search (rules, places)

  written : (i : ℕ) → i < k → get_or (put_mid a k s ys) (a + i) 0 ≡ get_or ys i 0
  written i h = search (rules, places)

  over : (i : ℕ) → a + k ≤ i → get_or (put_mid a k s ys) i 0 ≡ get_or s i 0
  over i h = search (rules, places)

-- three zeros
pub cleared : (s ys : List ℕ) (a k n : ℕ) → a + 3 ≤ length s → k ≡ 3 → length ys ≡ 3 → ys ≡ replicate n 0 → Zeroed s (put_mid a k s ys) a (a + 3)
cleared s ys a k n fits three size e =
    record {
      size = written_size s ys a k (omega arith) long;
      below = λ i h. under s ys a k (omega arith) long i h;
      above = λ i h. over s ys a k (omega arith) long i (omega arith);
      inside = λ i h l. inside i (i - a) (omega arith) (omega arith);
    }
  where
    long : length ys ≡ k
    long = size ∙ sym three

    inside : (i j : ℕ) → a + j ≡ i → j < k → get_or (put_mid a k s ys) i 0 ≡ 0
    inside i j p h = ap (λ (m : ℕ). get_or (put_mid a k s ys) m 0) (sym p) ∙ written s ys a k (omega arith) long j h ∙ ap (λ (l : List ℕ). get_or l j 0) e ∙ repeated 0 n j

-- ── one entry more ──

-- as code writes it: the numbers, and then the count
module _ (s entry : List ℕ) (at n k : ℕ) (e : n ≡ get_or s at 0) (three : k ≡ 3) (long : length entry ≡ 3) (room : get_or s at 0 < 256) (fits : at + 769 ≤ length s) where
  abbrev b : ℕ
  b = n * 3 + at + 1

  abbrev w : List ℕ
  w = put_mid b k s entry

  inner : b + k ≤ length s
  inner = omega arith

  size : length w ≡ length s
  size = written_size s entry b k inner (long ∙ sym three)

  earlier : (i : ℕ) → i < b → get_or w i 0 ≡ get_or s i 0
  earlier i h = under s entry b k inner (long ∙ sym three) i h

  other : (i : ℕ) → i ≢ at → get_or (set w at (get_or w at 0 + 1)) i 0 ≡ get_or w i 0
  other i h = get_or-set_other w at i (get_or w at 0 + 1) 0 h

  pub appended : Appended s (set w at (get_or w at 0 + 1)) at entry
  appended =
      record {
        size = length-set w at (get_or w at 0 + 1) ∙ size;
        count = get_or-set_same w at (get_or w at 0 + 1) 0 (omega (arith, size)) ∙ ap (λ (m : ℕ). m + 1) (earlier at (omega arith));
        inside = λ i h. let p : get_or s at 0 * 3 + at + 1 + i ≡ b + i = omega arith in ap (λ (m : ℕ). get_or (set w at (get_or w at 0 + 1)) m 0) p ∙ other (b + i) (omega arith) ∙ written s entry b k inner (long ∙ sym three) i (omega arith);
        below = λ i h. other i (omega arith) ∙ earlier i (omega arith);
        kept = λ i h l. other i (omega arith) ∙ earlier i (omega arith);
        above = λ i h. other i (omega arith) ∙ over s entry b k inner (long ∙ sym three) i (omega arith);
      }

-- the three numbers behind the last entry, as what they make
new_three : {A : Type 0} (make : ℕ → ℕ → ℕ → A) (s s' : List ℕ) (at x y z : ℕ) → Appended s s' at (x ∷ y ∷ z ∷ []) → three_at make (at + 1) s' (get_or s at 0) ≡ make x y z
new_three make s s' at x y z a = λ j. make ((place (get_or s at 0 * 3 + (at + 1)) 0 (omega arith) ∙ a.inside 0 (omega arith)) j) ((place (get_or s at 0 * 3 + (at + 1) + 1) 1 (omega arith) ∙ a.inside 1 (omega arith)) j) ((place (get_or s at 0 * 3 + (at + 1) + 2) 2 (omega arith) ∙ a.inside 2 (omega arith)) j)
  where
    place : (k i : ℕ) → k ≡ get_or s at 0 * 3 + at + 1 + i → get_or s' k 0 ≡ get_or s' (get_or s at 0 * 3 + at + 1 + i) 0
    place k i e = ap (λ (n : ℕ). get_or s' n 0) e

pub row_appended : (s s' : List ℕ) (r : Row) → Formed s → row_count s < 256 → Appended s s' 64 (from_row r) → s' ≡ encode (with_rows (decode s) ((decode s).rows ++ (r ∷ [])))
unfolding decode first_rows
row_appended s s' r f room a = as_encoded s' (with_rows (decode s) ((decode s).rows ++ (r ∷ []))) form (λ j. record { facts = facts-kept s s' a.size (λ k h. a.below k h) j; rows = rows j; certificates = certificates-kept s s' a.size (λ k h. a.above k (omega arith)) j })
  where
    new : row_at s' (row_count s) ≡ r
    new = row_places s' (row_count s) room ∙ new_three make_row s s' 64 r.user r.role r.rule a

    rows : first_rows s' (row_count s') ≡ first_rows s (row_count s) ++ (r ∷ [])
    rows = ap (first_rows s') (a.count ∙ add-one (row_count s)) ∙ rows_more s' (row_count s) ∙ (λ j. rows-first-same s s' (row_count s) f.rows (λ k h l. a.kept k (omega arith) (omega arith)) j ++ (new j ∷ []))

    form : Formed s'
    form =
        record {
          size = a.size ∙ f.size;
          bits = λ k h. subst⁻¹ (λ (n : ℕ). n ≤ 1) (a.below k h) (f.bits k h);
          rows = omega (arith, a.count);
          certificates = subst⁻¹ (λ (n : ℕ). n ≤ 256) (a.above 833 (omega arith)) f.certificates;
          rows_end = λ k h l. a.above k (omega (arith, a.count)) ∙ f.rows_end k (omega (arith, a.count)) l;
          certificates_end = λ k h. a.above k (omega arith) ∙ f.certificates_end k (omega (arith, a.above 833 (omega arith)));
        }

pub certificate_appended : (s s' : List ℕ) (c : Certificate) → Formed s → certificate_count s < 256 → Appended s s' 833 (from_certificate c) → s' ≡ encode (with_certificates (decode s) ((decode s).certificates ++ (c ∷ [])))
unfolding decode first_certificates certificate_at
certificate_appended s s' c f room a = as_encoded s' (with_certificates (decode s) ((decode s).certificates ++ (c ∷ []))) form (λ j. record { facts = facts-kept s s' a.size (λ k h. a.below k (omega arith)) j; rows = rows-kept s s' a.size (λ k h l. a.below k l) j; certificates = certificates j })
  where
    new : certificate_at s' (certificate_count s) ≡ c
    new = certificate_places s' (certificate_count s) room ∙ new_three make_certificate s s' 833 c.appointee c.kind c.appointer a

    certificates : first_certificates s' (certificate_count s') ≡ first_certificates s (certificate_count s) ++ (c ∷ [])
    certificates = ap (first_certificates s') a.count ∙ entries_more certificate_from 3 (certificate_numbers s') (certificate_count s) ∙ (λ j. certificates-first-same s s' (certificate_count s) f.certificates (λ k h l. a.kept k (omega arith) (omega arith)) j ++ (new j ∷ []))

    form : Formed s'
    form =
        record {
          size = a.size ∙ f.size;
          bits = λ k h. subst⁻¹ (λ (n : ℕ). n ≤ 1) (a.below k (omega arith)) (f.bits k h);
          rows = subst⁻¹ (λ (n : ℕ). n ≤ 256) (a.below 64 (omega arith)) f.rows;
          certificates = omega (arith, a.count);
          rows_end = λ k h l. a.below k l ∙ f.rows_end k (omega (arith, a.below 64 (omega arith))) l;
          certificates_end = λ k h. a.above k (omega (arith, a.count)) ∙ f.certificates_end k (omega (arith, a.count));
        }

-- ── one certificate less ──

-- a list without the element at j, by its places
without-place : {A : Type 0} (d : A) (j : ℕ) (l l' : List A) → j < length l → suc (length l') ≡ length l → ((i : ℕ) → i < j → get_or l' i d ≡ get_or l i d) → ((i : ℕ) → j ≤ i → i < length l' → get_or l' i d ≡ get_or l (suc i) d)
    → l' ≡ take j l ++ drop (suc j) l
without-place d zero [] l' h e f g = absurd (omega arith)
without-place d zero (x ∷ l) l' h e f g = ext_get_or d l' l (omega arith) (λ i k. g i (omega arith) k)
without-place d (suc j) [] l' h e f g = absurd (omega arith)
without-place d (suc j) (x ∷ l) [] h e f g = absurd (omega arith)
without-place d (suc j) (x ∷ l) (y ∷ l') h e f g = λ i. f 0 (omega arith) i ∷ without-place d j l l' (omega arith) (omega arith) (λ k m. f (suc k) (omega arith)) (λ k m n. g (suc k) (omega arith) (omega arith)) i

module _ (s m z : List ℕ) (j last : ℕ) (f : Formed s) (h : j < certificate_count s) (e : suc last ≡ certificate_count s) (moved : Moved s m (j * 3 + 834 + 3) (j * 3 + 834) (last * 3 + 834 - (j * 3 + 834))) (zeroed : Zeroed m z (last * 3 + 834) (last * 3 + 834 + 3)) where
  s' : List ℕ
  s' = set z 833 (get_or z 833 0 - 1)

  gone_size : length s' ≡ length s
  unfolding s'
  gone_size = length-set z 833 (get_or z 833 0 - 1) ∙ zeroed.size ∙ moved.size

  gone_other : (k : ℕ) → k ≢ 833 → get_or s' k 0 ≡ get_or z k 0
  unfolding s'
  gone_other k n = get_or-set_other z 833 k (get_or z 833 0 - 1) 0 n

  gone_count : certificate_count s' ≡ last
  unfolding s'
  gone_count = get_or-set_same z 833 (get_or z 833 0 - 1) 0 (omega (arith, zeroed.size, moved.size, f.size)) ∙ omega (arith, zeroed.below 833 (omega arith), moved.below 833 (omega arith))

  low : (k : ℕ) → k < 833 → get_or s' k 0 ≡ get_or s k 0
  low k l = gone_other k (omega arith) ∙ zeroed.below k (omega arith) ∙ moved.below k (omega arith)

  -- before the gap, as it was; from the gap on, three places further
  before : (k : ℕ) → 834 ≤ k → k < j * 3 + 834 → get_or s' k 0 ≡ get_or s k 0
  before k a l = gone_other k (omega arith) ∙ zeroed.below k (omega (arith, f.certificates)) ∙ moved.below k l

  after : (k : ℕ) → j * 3 + 834 ≤ k → k < last * 3 + 834 → get_or s' k 0 ≡ get_or s (k + 3) 0
  after k a l =
      let i = k - (j * 3 + 834) in
      let p : j * 3 + 834 + i ≡ k = omega arith in
      let q : j * 3 + 834 + 3 + i ≡ k + 3 = omega arith in
      gone_other k (omega arith) ∙ zeroed.below k l ∙ ap (λ (n : ℕ). get_or m n 0) (sym p) ∙ moved.inside i (omega arith) ∙ ap (λ (n : ℕ). get_or s n 0) q

  ends : (k : ℕ) → last * 3 + 834 ≤ k → get_or s' k 0 ≡ 0
  ends k a = go (lt_or_ge k (last * 3 + 834 + 3))
    where
      go : (k < last * 3 + 834 + 3) ⊎ (last * 3 + 834 + 3 ≤ k) → get_or s' k 0 ≡ 0
      go (inl l) = gone_other k (omega arith) ∙ zeroed.inside k a l
      go (inr l) = gone_other k (omega arith) ∙ zeroed.above k l ∙ moved.above k (omega arith) ∙ f.certificates_end k (omega arith)

  entries-left : first_certificates s' last ≡ take j (first_certificates s (certificate_count s)) ++ drop (suc j) (first_certificates s (certificate_count s))
  unfolding first_certificates certificate_at
  entries-left =
      without-place none j (first_certificates s (certificate_count s)) (first_certificates s' last) (omega (arith, size s (certificate_count s))) (omega (arith, size s (certificate_count s), size s' last))
      (λ i l. at s' last i (omega arith) ∙ certificate-same s s' i i (omega (arith, f.certificates)) (omega (arith, f.certificates)) (λ k b. before (i * 3 + 834 + k) (omega arith) (omega arith)) ∙ sym (at s (certificate_count s) i (omega arith)))
      (λ i a l.
      let b : i < last = omega (arith, size s' last) in
      at s' last i b
      ∙ certificate-same s s' (suc i) i (omega (arith, f.certificates)) (omega (arith, f.certificates)) (λ k c. let q : i * 3 + 834 + k + 3 ≡ suc i * 3 + 834 + k = omega arith in after (i * 3 + 834 + k) (omega arith) (omega arith) ∙ ap (λ (n : ℕ). get_or s n 0) q)
      ∙ sym (at s (certificate_count s) (suc i) (omega arith)))
    where
      none : Certificate
      none = record { appointee = 0; kind = 0; appointer = 0 }

      size : (l : List ℕ) (n : ℕ) → length (first_certificates l n) ≡ n
      size l n = length-entries certificate_from 3 (certificate_numbers l) n

      at : (l : List ℕ) (n i : ℕ) → i < n → get_or (first_certificates l n) i none ≡ certificate_at l i
      at l n i k = entry_in certificate_from 3 (certificate_numbers l) n i none k

  pub certificate_removed : set z 833 (get_or z 833 0 - 1) ≡ encode (with_certificates (decode s) (take j (decode s).certificates ++ drop (suc j) (decode s).certificates))
  unfolding s' decode first_certificates
  certificate_removed =
      as_encoded s' (with_certificates (decode s) (take j (decode s).certificates ++ drop (suc j) (decode s).certificates)) form
      (λ i. record { facts = facts-kept s s' gone_size (λ k l. low k (omega arith)) i; rows = rows-kept s s' gone_size (λ k a l. low k l) i; certificates = (ap (first_certificates s') gone_count ∙ entries-left) i })
    where
      form : Formed s'
      form =
          record {
            size = gone_size ∙ f.size;
            bits = λ k l. subst⁻¹ (λ (n : ℕ). n ≤ 1) (low k (omega arith)) (f.bits k l);
            rows = subst⁻¹ (λ (n : ℕ). n ≤ 256) (low 64 (omega arith)) f.rows;
            certificates = omega (arith, gone_count, f.certificates);
            rows_end = λ k a l. low k l ∙ f.rows_end k (omega (arith, low 64 (omega arith))) l;
            certificates_end = λ k a. ends k (omega (arith, gone_count));
          }

-- ── a fact ──

pub fact-set : (s : List ℕ) (i v : ℕ) → Formed s → i < 64 → v ≤ 1 → set s i v ≡ encode (with_fact (decode s) i v)
unfolding decode
fact-set s i v f h l =
    as_encoded (set s i v) (with_fact (decode s) i v) form
    (λ j. record { facts = take-set-lt 64 s i v h j; rows = rows-kept s (set s i v) (length-set s i v) (λ k a b. other k (omega arith)) j; certificates = certificates-kept s (set s i v) (length-set s i v) (λ k a. other k (omega arith)) j })
  where
    other : (k : ℕ) → k ≢ i → get_or (set s i v) k 0 ≡ get_or s k 0
    other k n = get_or-set_other s i k v 0 n

    bit : (k : ℕ) → k < 64 → (k < i) ⊎ (i ≤ k) → (i < k) ⊎ (k ≤ i) → get_or (set s i v) k 0 ≤ 1
    bit k a (inl b) c = subst⁻¹ (λ (n : ℕ). n ≤ 1) (other k (omega arith)) (f.bits k a)
    bit k a (inr b) (inl c) = subst⁻¹ (λ (n : ℕ). n ≤ 1) (other k (omega arith)) (f.bits k a)
    bit k a (inr b) (inr c) = let q : k ≡ i = omega arith in subst⁻¹ (λ (n : ℕ). n ≤ 1) (ap (λ (n : ℕ). get_or (set s i v) n 0) q ∙ get_or-set_same s i v 0 (omega (arith, f.size))) l

    form : Formed (set s i v)
    form =
        record {
          size = length-set s i v ∙ f.size;
          bits = λ k a. bit k a (lt_or_ge k i) (lt_or_ge i k);
          rows = subst⁻¹ (λ (n : ℕ). n ≤ 256) (other 64 (omega arith)) f.rows;
          certificates = subst⁻¹ (λ (n : ℕ). n ≤ 256) (other 833 (omega arith)) f.certificates;
          rows_end = λ k a b. other k (omega arith) ∙ f.rows_end k (omega (arith, other 64 (omega arith))) b;
          certificates_end = λ k a. other k (omega arith) ∙ f.certificates_end k (omega (arith, other 833 (omega arith)));
        }

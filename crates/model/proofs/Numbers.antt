-- Numbers and values are the same thing said twice: decoding what was encoded gives the value back, encoding what was decoded gives
-- the numbers back, and a state of numbers is sound exactly if its value is.
use Prim.Native.Nat.{ℕ, zero, suc, ◌+◌, ◌*◌, ◌-◌, ◌≤◌}
use mathlib.Core.Path.{◌≡◌, refl, sym, ap, ◌∙◌, subst⁻¹}
use mathlib.Core.List.{List, [], ◌∷◌, ◌++◌, map, append_assoc}
use native.Mathlib.Omega.{arith}
use native.Mathlib.Nat.{suc-mul, zero-mul, add_comm}
use native.Mathlib.Numerals.{add-one}
use lib.Dec.{T, eqb, leb, eqb→eq, leb→le, le→leb}
use lib.ListN.{length, get_or, take, drop, replicate, length-append, length-drop, length-replicate, take-append-drop, length-map}
use lib.Seq.{take_at, drop_at, get_or_at, split_at, drop-cons, drop-drop, take-add, take_all, length-take-le}
use Rattle.model.specs.Lists.{all, joined, is_zero, is_bit, filled_to, rows_of}
use Rattle.model.specs.Limits.{facts, most_rows, row_width, most_certificates, certificate_width, state_size}
use Rattle.model.specs.Values.{Policy, State}
use Rattle.model.specs.Layout.{row_from, certificate_from, from_row, from_certificate, decode, encode, row_count, certificate_count, fact_numbers, row_numbers, certificate_numbers, rows_at, certificates_at}
use Rattle.model.specs.Sound.{form_clauses, well_formed, sound_values, sound}
use Rattle.model.specs.declared.Row.{Row}
use Rattle.model.specs.declared.Certificate.{Certificate}
use Rattle.model.specs.Words.{Fits, SoundState}
use Rattle.model.proofs.Tests.{and_left, and_right, and_both, each, of_each}

-- ── numbers one by one ──

-- the n numbers of a list from place b + k on
abbrev pub cells : List ℕ → ℕ → ℕ → ℕ → List ℕ
cells l b k zero = []
cells l b k (suc n) = get_or l (b + k) 0 ∷ cells l b (suc k) n

pub part_cells : (l : List ℕ) (b k n : ℕ) → b + k + n ≤ length l → take n (drop (b + k) l) ≡ cells l b k n
part_cells l b k zero h = refl
part_cells l b k (suc n) h =
    let e : suc (b + k) ≡ b + suc k = omega arith in
    ap (take (suc n)) (drop-cons l (b + k) 0 (omega arith))
    ∙ (λ i. get_or l (b + k) 0 ∷ (ap (λ (p : ℕ). take n (drop p l)) e ∙ part_cells l b (suc k) n (omega arith)) i)

-- ── rows of one width ──

pub length-rows : (w n : ℕ) (l : List ℕ) → length (rows_of w n l) ≡ n
length-rows w zero l = refl
length-rows w (suc n) l = ap suc (length-rows w n (drop w l))

module _ {A : Type 0} (w : ℕ) (to : List ℕ → A) (from : A → List ℕ) where
  length-joined : ((x : A) → length (from x) ≡ w) → (xs : List A) → length (joined from xs) ≡ length xs * w
  length-joined wide [] = sym (zero-mul w)
  length-joined wide (x ∷ xs) = length-append (from x) (joined from xs) ∙ omega (arith, wide x, length-joined wide xs, suc-mul (length xs) w)

  -- the values come back, whatever stands behind them
  values_back : ((x : A) → length (from x) ≡ w) → ((x : A) → to (from x) ≡ x) → (xs : List A) (behind : List ℕ) → map to (rows_of w (length xs) (joined from xs ++ behind)) ≡ xs
  values_back wide back [] behind = refl
  values_back wide back (x ∷ xs) behind =
      ap (λ (l : List ℕ). to (take w l) ∷ map to (rows_of w (length xs) (drop w l))) (append_assoc (from x) (joined from xs) behind)
      ∙ ap (λ (l : List ℕ). to l ∷ map to (rows_of w (length xs) (drop w (from x ++ (joined from xs ++ behind))))) (take_at (from x) (joined from xs ++ behind) w (wide x))
      ∙ ap (λ (l : List ℕ). to (from x) ∷ map to (rows_of w (length xs) l)) (drop_at (from x) (joined from xs ++ behind) w (wide x))
      ∙ (λ i. back x i ∷ values_back wide back xs behind i)

  -- the numbers come back, as many as the rows had
  numbers_back : ((row : List ℕ) → length row ≡ w → from (to row) ≡ row) → (n : ℕ) (l : List ℕ) → n * w ≤ length l → joined from (map to (rows_of w n l)) ≡ take (n * w) l
  numbers_back forth zero l h = sym (ap (λ (k : ℕ). take k l) (zero-mul w))
  numbers_back forth (suc n) l h =
      (λ i. forth (take w l) (length-take-le w l (omega (arith, suc-mul n w))) i ++ numbers_back forth n (drop w l) (simp length-drop (omega (arith, suc-mul n w))) i)
      ∙ sym (take-add w (n * w) l)
      ∙ ap (λ (k : ℕ). take k l) (add_comm w (n * w) ∙ sym (suc-mul n w))

-- ── zeros behind ──

zeros-only : (l : List ℕ) → T (all is_zero l) → l ≡ replicate (length l) 0
zeros-only [] t = refl
zeros-only (x ∷ l) t = λ i. eqb→eq x 0 (and_left (is_zero x) (all is_zero l) t) i ∷ zeros-only l (and_right (is_zero x) (all is_zero l) t) i

only-zeros : (n : ℕ) → T (all is_zero (replicate n 0))
only-zeros zero = tt
only-zeros (suc n) = only-zeros n

length_filled : (size : ℕ) (l : List ℕ) → length l ≤ size → length (filled_to size l) ≡ size
length_filled size l h = length-append l (replicate (size - length l) 0) ∙ omega (arith, length-replicate {A = ℕ} (size - length l) 0)

-- a list that has only zeros from k on is its first k numbers, filled up
filled_back : (size k : ℕ) (l : List ℕ) → length l ≡ size → k ≤ size → T (all is_zero (drop k l)) → filled_to size (take k l) ≡ l
filled_back size k l e h t =
    let behind : size - length (take k l) ≡ length (drop k l) = omega (arith, length-take-le k l (omega arith), length-drop k l) in
    ap (λ (n : ℕ). take k l ++ replicate n 0) behind
    ∙ ap (λ (r : List ℕ). take k l ++ r) (sym (zeros-only (drop k l) t))
    ∙ take-append-drop k l

-- ── two counted tables behind a first part ──

module _ (a b c : List ℕ) (x y n m : ℕ) (sa : length a ≡ n) (sb : length b ≡ m) where
  first_part : take n ((a ++ (x ∷ b)) ++ (y ∷ c)) ≡ a
  first_part = ap (λ (l : List ℕ). take n l) (append_assoc a (x ∷ b) (y ∷ c)) ∙ take_at a ((x ∷ b) ++ (y ∷ c)) n sa

  first_count : get_or ((a ++ (x ∷ b)) ++ (y ∷ c)) n 0 ≡ x
  first_count = ap (λ (l : List ℕ). get_or l n 0) (append_assoc a (x ∷ b) (y ∷ c)) ∙ get_or_at a x (b ++ (y ∷ c)) 0 n sa

  first_table : take m (drop (n + 1) ((a ++ (x ∷ b)) ++ (y ∷ c))) ≡ b
  first_table =
      ap (λ (l : List ℕ). take m (drop (n + 1) l)) (append_assoc a (x ∷ b) (y ∷ c) ∙ sym (append_assoc a (x ∷ []) (b ++ (y ∷ c))))
      ∙ ap (λ (l : List ℕ). take m l) (drop_at (a ++ (x ∷ [])) (b ++ (y ∷ c)) (n + 1) (length-append a (x ∷ []) ∙ omega arith))
      ∙ take_at b (y ∷ c) m sb

  second-count : get_or ((a ++ (x ∷ b)) ++ (y ∷ c)) (n + 1 + m) 0 ≡ y
  second-count = get_or_at (a ++ (x ∷ b)) y c 0 (n + 1 + m) (length-append a (x ∷ b) ∙ omega arith)

  second_table : drop (n + 1 + m + 1) ((a ++ (x ∷ b)) ++ (y ∷ c)) ≡ c
  second_table =
      ap (λ (l : List ℕ). drop (n + 1 + m + 1) l) (sym (append_assoc (a ++ (x ∷ b)) (y ∷ []) c))
      ∙ drop_at ((a ++ (x ∷ b)) ++ (y ∷ [])) c (n + 1 + m + 1) (length-append (a ++ (x ∷ b)) (y ∷ []) ∙ omega (arith, length-append a (x ∷ b)))

-- a list long enough is made of such parts
in_parts : (s : List ℕ) (n m : ℕ) → n + 1 + m + 1 ≤ length s
    → s ≡ (take n s ++ (get_or s n 0 ∷ take m (drop (n + 1) s))) ++ (get_or s (n + 1 + m) 0 ∷ drop (n + 1 + m + 1) s)
in_parts s n m h =
    split_at s n 0 (omega arith)
    ∙ ap (λ (k : ℕ). take n s ++ (get_or s n 0 ∷ drop k s)) (sym (add-one n))
    ∙ ap (λ (l : List ℕ). take n s ++ (get_or s n 0 ∷ l)) (sym (take-append-drop m (drop (n + 1) s)) ∙ ap (λ (l : List ℕ). take m (drop (n + 1) s) ++ l) (drop-drop m (n + 1) s ∙ drop-cons s (n + 1 + m) 0 (omega arith) ∙ ap (λ (k : ℕ). get_or s (n + 1 + m) 0 ∷ drop k s) (sym (add-one (n + 1 + m)))))
    ∙ sym (append_assoc (take n s) (get_or s n 0 ∷ take m (drop (n + 1) s)) (get_or s (n + 1 + m) 0 ∷ drop (n + 1 + m + 1) s))

-- ── rows and certificates ──

-- three numbers, one by one
three_forth : (l : List ℕ) → length l ≡ 3 → get_or l 0 0 ∷ get_or l 1 0 ∷ get_or l 2 0 ∷ [] ≡ l
three_forth [] e = absurd (omega arith)
three_forth (a ∷ []) e = absurd (omega arith)
three_forth (a ∷ b ∷ []) e = absurd (omega arith)
three_forth (a ∷ b ∷ c ∷ []) e = refl
three_forth (a ∷ b ∷ c ∷ d ∷ l) e = absurd (omega arith)

row_width_lem : (r : Row) → length (from_row r) ≡ row_width
row_width_lem r = refl

row_back : (r : Row) → row_from (from_row r) ≡ r
row_back r = refl

row_forth : (l : List ℕ) → length l ≡ row_width → from_row (row_from l) ≡ l
row_forth l e = three_forth l e

certificate_width_lem : (c : Certificate) → length (from_certificate c) ≡ certificate_width
certificate_width_lem c = refl

certificate_back : (c : Certificate) → certificate_from (from_certificate c) ≡ c
certificate_back c = refl

certificate_forth : (l : List ℕ) → length l ≡ certificate_width → from_certificate (certificate_from l) ≡ l
certificate_forth l e = three_forth l e

-- ── the state ──

module _ (t : State) (f : Fits t) where
  rows_part : List ℕ
  rows_part = filled_to (most_rows * row_width) (joined from_row t.rows)

  certificates_part : List ℕ
  certificates_part = filled_to (most_certificates * certificate_width) (joined from_certificate t.certificates)

  rows-length : length (joined from_row t.rows) ≡ length t.rows * row_width
  rows-length = length-joined row_width row_from from_row row_width_lem t.rows

  certificates-length : length (joined from_certificate t.certificates) ≡ length t.certificates * certificate_width
  certificates-length = length-joined certificate_width certificate_from from_certificate certificate_width_lem t.certificates

  rows-part-length : length rows_part ≡ most_rows * row_width
  unfolding rows_part
  rows-part-length = length_filled (most_rows * row_width) (joined from_row t.rows) (omega (arith, rows-length, f.room_for_rows))

  certificates-part-length : length certificates_part ≡ most_certificates * certificate_width
  unfolding certificates_part
  certificates-part-length = length_filled (most_certificates * certificate_width) (joined from_certificate t.certificates) (omega (arith, certificates-length, f.room_for_certificates))

  encoded : encode t ≡ (t.facts ++ (length t.rows ∷ rows_part)) ++ (length t.certificates ∷ certificates_part)
  unfolding encode rows_part certificates_part
  encoded = refl

  facts_encoded : fact_numbers (encode t) ≡ t.facts
  facts_encoded = ap (λ (l : List ℕ). fact_numbers l) encoded ∙ first_part t.facts rows_part certificates_part (length t.rows) (length t.certificates) facts (most_rows * row_width) f.all_facts rows-part-length

  row_count_encoded : row_count (encode t) ≡ length t.rows
  row_count_encoded = ap (λ (l : List ℕ). row_count l) encoded ∙ first_count t.facts rows_part certificates_part (length t.rows) (length t.certificates) facts (most_rows * row_width) f.all_facts rows-part-length

  rows_encoded : row_numbers (encode t) ≡ rows_part
  rows_encoded = ap (λ (l : List ℕ). row_numbers l) encoded ∙ first_table t.facts rows_part certificates_part (length t.rows) (length t.certificates) facts (most_rows * row_width) f.all_facts rows-part-length

  certificate_count_encoded : certificate_count (encode t) ≡ length t.certificates
  certificate_count_encoded = ap (λ (l : List ℕ). certificate_count l) encoded ∙ second-count t.facts rows_part certificates_part (length t.rows) (length t.certificates) facts (most_rows * row_width) f.all_facts rows-part-length

  certificates_encoded : certificate_numbers (encode t) ≡ certificates_part
  certificates_encoded =
      ap (λ (l : List ℕ). certificate_numbers l) encoded
      ∙ ap (λ (l : List ℕ). take (most_certificates * certificate_width) l) (second_table t.facts rows_part certificates_part (length t.rows) (length t.certificates) facts (most_rows * row_width) f.all_facts rows-part-length)
      ∙ take_all (most_certificates * certificate_width) certificates_part (omega (arith, certificates-part-length))

  -- encoding loses nothing
  pub decode-encode : decode (encode t) ≡ t
  unfolding decode rows_part certificates_part
  decode-encode = λ i. record { facts = facts_encoded i; rows = rows i; certificates = certificates i }
    where
      rows : map row_from (rows_of row_width (row_count (encode t)) (row_numbers (encode t))) ≡ t.rows
      rows = (λ i. map row_from (rows_of row_width (row_count_encoded i) (rows_encoded i))) ∙ values_back row_width row_from from_row row_width_lem row_back t.rows (replicate (most_rows * row_width - length (joined from_row t.rows)) 0)

      certificates : map certificate_from (rows_of certificate_width (certificate_count (encode t)) (certificate_numbers (encode t))) ≡ t.certificates
      certificates = (λ i. map certificate_from (rows_of certificate_width (certificate_count_encoded i) (certificates_encoded i))) ∙ values_back certificate_width certificate_from from_certificate certificate_width_lem certificate_back t.certificates (replicate (most_certificates * certificate_width - length (joined from_certificate t.certificates)) 0)

  length-encode : length (encode t) ≡ state_size
  length-encode = ap length encoded ∙ length-append (t.facts ++ (length t.rows ∷ rows_part)) (length t.certificates ∷ certificates_part) ∙ omega (arith, length-append t.facts (length t.rows ∷ rows_part), rows-part-length, certificates-part-length, f.all_facts)

  -- what is encoded is well formed
  pub encode_formed : T (well_formed (encode t))
  unfolding form_clauses rows_part certificates_part
  encode_formed =
      of_each (form_clauses (encode t)) (
        subst⁻¹ (λ (n : ℕ). T (eqb n state_size)) length-encode tt,
        (
          subst⁻¹ (λ (l : List ℕ). T (all is_bit l)) facts_encoded f.bits,
          (
            subst⁻¹ (λ (n : ℕ). T (leb n most_rows)) row_count_encoded (le→leb (length t.rows) most_rows f.room_for_rows),
            (
              subst⁻¹ (λ (n : ℕ). T (leb n most_certificates)) certificate_count_encoded (le→leb (length t.certificates) most_certificates f.room_for_certificates),
              (
                zeros-after (row_count (encode t) * row_width) (row_numbers (encode t)) (most_rows * row_width) (joined from_row t.rows) (ap (λ (n : ℕ). n * row_width) row_count_encoded ∙ sym rows-length) rows_encoded,
                (
                  zeros-after (certificate_count (encode t) * certificate_width) (certificate_numbers (encode t)) (most_certificates * certificate_width) (joined from_certificate t.certificates) (ap (λ (n : ℕ). n * certificate_width) certificate_count_encoded ∙ sym certificates-length) certificates_encoded,
                  tt,
                ),
              ),
            ),
          ),
        ),
      )
    where
      zeros-after : (k : ℕ) (l : List ℕ) (size : ℕ) (used : List ℕ) → k ≡ length used → l ≡ filled_to size used → T (all is_zero (drop k l))
      zeros-after k l size used e q = subst⁻¹ (λ (r : List ℕ). T (all is_zero r)) (ap (λ (r : List ℕ). drop k r) q ∙ drop_at used (replicate (size - length used) 0) k (sym e)) (only-zeros (size - length used))

module _ (s : List ℕ) (t : T (well_formed s)) where
  pub formed_size : length s ≡ state_size
  unfolding form_clauses
  formed_size = eqb→eq (length s) state_size (each (form_clauses s) t).0

  pub formed_rows : row_count s ≤ most_rows
  unfolding form_clauses
  formed_rows = leb→le (row_count s) most_rows (each (form_clauses s) t).1.1.0

  pub formed_certificates : certificate_count s ≤ most_certificates
  unfolding form_clauses
  formed_certificates = leb→le (certificate_count s) most_certificates (each (form_clauses s) t).1.1.1.0

  -- what is well formed has its place
  pub decode-fits : Fits (decode s)
  unfolding form_clauses decode
  decode-fits =
      record {
        all_facts = length-take-le facts s (omega (arith, formed_size));
        bits = (each (form_clauses s) t).1.0;
        room_for_rows = omega (arith, length-map (rows_of row_width (row_count s) (row_numbers s)) row_from, length-rows row_width (row_count s) (row_numbers s), formed_rows);
        room_for_certificates = omega (arith, length-map (rows_of certificate_width (certificate_count s) (certificate_numbers s)) certificate_from, length-rows certificate_width (certificate_count s) (certificate_numbers s), formed_certificates);
      }

  -- decoding loses nothing of what is well formed
  pub encode-decode : encode (decode s) ≡ s
  unfolding form_clauses decode encode
  encode-decode =
      (λ i. (fact_numbers s ++ (rows_counted i ∷ rows-numbers i)) ++ (certificates_counted i ∷ certificates-numbers i))
      ∙ ap (λ (l : List ℕ). (fact_numbers s ++ (row_count s ∷ row_numbers s)) ++ (certificate_count s ∷ l)) (take_all (most_certificates * certificate_width) (drop certificates_at s) (simp length-drop (omega (arith, formed_size))))
      ∙ sym (in_parts s facts (most_rows * row_width) (omega (arith, formed_size)))
    where
      rows_counted : length (map row_from (rows_of row_width (row_count s) (row_numbers s))) ≡ row_count s
      rows_counted = length-map (rows_of row_width (row_count s) (row_numbers s)) row_from ∙ length-rows row_width (row_count s) (row_numbers s)

      certificates_counted : length (map certificate_from (rows_of certificate_width (certificate_count s) (certificate_numbers s))) ≡ certificate_count s
      certificates_counted = length-map (rows_of certificate_width (certificate_count s) (certificate_numbers s)) certificate_from ∙ length-rows certificate_width (certificate_count s) (certificate_numbers s)

      table_length : (at size : ℕ) → at + size ≤ state_size → length (take size (drop at s)) ≡ size
      table_length at size h = length-take-le size (drop at s) (simp length-drop (omega (arith, formed_size)))

      rows-numbers : filled_to (most_rows * row_width) (joined from_row (map row_from (rows_of row_width (row_count s) (row_numbers s)))) ≡ row_numbers s
      rows-numbers =
          ap (λ (l : List ℕ). filled_to (most_rows * row_width) l) (numbers_back row_width row_from from_row row_forth (row_count s) (row_numbers s) (omega (arith, formed_rows, table_length rows_at (most_rows * row_width) (omega arith))))
          ∙ filled_back (most_rows * row_width) (row_count s * row_width) (row_numbers s) (table_length rows_at (most_rows * row_width) (omega arith)) (omega (arith, formed_rows)) (each (form_clauses s) t).1.1.1.1.0

      certificates-numbers : filled_to (most_certificates * certificate_width) (joined from_certificate (map certificate_from (rows_of certificate_width (certificate_count s) (certificate_numbers s)))) ≡ certificate_numbers s
      certificates-numbers =
          ap (λ (l : List ℕ). filled_to (most_certificates * certificate_width) l) (numbers_back certificate_width certificate_from from_certificate certificate_forth (certificate_count s) (certificate_numbers s) (omega (arith, formed_certificates, table_length certificates_at (most_certificates * certificate_width) (omega arith))))
          ∙ filled_back (most_certificates * certificate_width) (certificate_count s * certificate_width) (certificate_numbers s) (table_length certificates_at (most_certificates * certificate_width) (omega arith)) (omega (arith, formed_certificates)) (each (form_clauses s) t).1.1.1.1.1.0

-- ── soundness of a value ──

pub sound_formed : (p : Policy) (s : List ℕ) → T (sound p s) → T (well_formed s)
unfolding sound
sound_formed p s t = and_left (well_formed s) (sound_values p (decode s)) t

pub sound-decode : (p : Policy) (s : List ℕ) → T (sound p s) → SoundState p (decode s)
unfolding sound
sound-decode p s t = record { fits = decode-fits s (sound_formed p s t); values = and_right (well_formed s) (sound_values p (decode s)) t }

pub sound-encode : (p : Policy) (t : State) → SoundState p t → T (sound p (encode t))
unfolding sound
sound-encode p t h =
    and_both (well_formed (encode t)) (sound_values p (decode (encode t))) (encode_formed t h.fits)
    (subst⁻¹ (λ (x : State). T (sound_values p x)) (decode-encode t h.fits) h.values)

-- The laws by which the scans for an end are proved: a byte passed, a byte found, the text's end. And that they cut a text as the
-- outline does: a record and the records behind it, a field and the fields behind it.
use Prim.Native.Nat.{ℕ, suc, ◌+◌, ◌-◌, ◌<◌, ◌≤◌}
use mathlib.Core.Path.{◌≡◌, refl, sym, ap, subst, ◌∙◌}
use mathlib.Core.Bool.{Bool, true, false, ◌&&◌, cond}
use mathlib.Core.List.{List, [], ◌∷◌, map}
use native.Mathlib.Omega.{arith}
use borrow.Author.Tests.{ltb-false}
use native.Mathlib.Numerals.{add-one, one-add}
use lib.Dec.{eqb, ltb}
use lib.ListN.{length, get_or, take, drop, length-drop}
use lib.Seq.{take_all, drop-cons, drop-drop, drop-length}
use Rattle.std.specs.Prelude.{Option, Some, None, MatchOption}
use Rattle.std.specs.List.{position_or_len}
use Rattle.std.proofs.lemmas.List.Recursion.{is_position_or_len}
use Rattle.program.specs.Text.{before, records, fields, unquoted}
use Rattle.text.specs.Places.{part, Within, at_crlf, at_comma, bytes_before, end_from, record_end, field_end, fields_after, said_behind}

module _ (test : List ℕ → Bool) where
  passed : (l : List ℕ) (b : ℕ) (t : List ℕ) → l ≡ b ∷ t → test l ≡ false → bytes_before test l ≡ suc (bytes_before test t)
  passed l b t e f = ap (bytes_before test) e ∙ ap (λ (x : Bool). cond x 0 (suc (bytes_before test t))) (sym (ap test e) ∙ f)

  found : (l : List ℕ) (b : ℕ) (t : List ℕ) → l ≡ b ∷ t → test l ≡ true → bytes_before test l ≡ 0
  found l b t e f = ap (bytes_before test) e ∙ ap (λ (x : Bool). cond x 0 (suc (bytes_before test t))) (sym (ap test e) ∙ f)

  before_le : (l : List ℕ) → bytes_before test l ≤ length l
  before_le [] = omega arith
  before_le (b ∷ l) = go (before_le l) (test (b ∷ l))
    where
      go : bytes_before test l ≤ length l → (x : Bool) → cond x 0 (suc (bytes_before test l)) ≤ suc (length l)
      go ih true = omega arith
      go ih false = omega arith

  end_within : (s : List ℕ) (i end : ℕ) → end ≡ end_from test s i → i ≤ length s → Within s i end
  end_within s i end e h = let l = before_le (drop i s) in record { ordered = omega arith; inside = omega (arith, l, length-drop i s) }

-- ── an end as `position` finds it ──

-- all that is left from a place on
pub left_is : (s : List ℕ) (i : ℕ) → take (length s - i) (drop i s) ≡ drop i s
left_is s i = take_all (length s - i) (drop i s) (omega (arith, length-drop i s))

-- of `size` items, the first that passes is the one behind n, or none is: then m is n, or the whole length
pub record Found (n size m len : ℕ) : Type 0 where
  pub some : ltb n size ≡ true → m ≡ n
  pub none : ltb n size ≡ false → m ≡ len

pub end_found : (test : List ℕ → Bool) (s : List ℕ) (from : ℕ) (left : List ℕ) (n size : ℕ) (r : Option ℕ) (end : ℕ) → from ≤ length s → left ≡ drop from s → Found n size (bytes_before test left) (length left)
    → r ≡ cond (ltb n size) (Some n) None → MatchOption r (end ≡ length s) (λ k. end ≡ from + k) → end ≡ end_from test s from
end_found test s from left n size r end h l f e m = go (ltb n size) refl
  where
    same : bytes_before test (drop from s) ≡ bytes_before test left
    same = ap (bytes_before test) (sym l)

    is : (b : Bool) → ltb n size ≡ b → MatchOption (cond b (Some n) None) (end ≡ length s) (λ k. end ≡ from + k)
    is b q = subst (λ (o : Option ℕ). MatchOption o (end ≡ length s) (λ k. end ≡ from + k)) (e ∙ ap (λ (x : Bool). cond x (Some n) None) q) m

    go : (b : Bool) → ltb n size ≡ b → end ≡ from + bytes_before test (drop from s)
    go true q = let found : end ≡ from + n = is true q in omega (arith, found, same, f.some q)
    go false q = let none : end ≡ length s = is false q in omega (arith, none, same, f.none q, ap length l, length-drop from s)

-- a comma is one byte
pub comma_found : (l : List ℕ) → Found (position_or_len (λ (b : ℕ). eqb b 44) l) (length l) (bytes_before at_comma l) (length l)
unfolding at_comma
comma_found l = record { some = λ e. is; none = λ e. omega (arith, is, before_le at_comma l, ltb-false (position_or_len (λ (b : ℕ). eqb b 44) l) (length l) e) }
  where
    is : bytes_before at_comma l ≡ position_or_len (λ (b : ℕ). eqb b 44) l
    is = is_position_or_len (bytes_before at_comma) (λ (b : ℕ). eqb b 44) refl (λ b m. ap (cond (eqb b 44) 0) (sym (one-add (bytes_before at_comma m)))) l

-- ── how the ends cut a text, and a record ──

records_cut : (a : ℕ) (l : List ℕ) → records (a ∷ l) ≡ take (bytes_before at_crlf (a ∷ l)) (a ∷ l) ∷ records (drop (suc (suc (bytes_before at_crlf (a ∷ l)))) (a ∷ l))
unfolding at_crlf
records_cut a [] = go (eqb a 13)
  where
    go : (x : Bool) → (a ∷ []) ∷ [] ≡ take (cond (x && false) 0 1) (a ∷ []) ∷ records (drop (suc (suc (cond (x && false) 0 1))) (a ∷ []))
    go true = refl
    go false = refl
records_cut a (b ∷ l) = go (eqb a 13 && eqb b 10) (records_cut b l)
  where
    m : ℕ
    m = bytes_before at_crlf (b ∷ l)

    go : (x : Bool) → records (b ∷ l) ≡ take m (b ∷ l) ∷ records (drop (suc (suc m)) (b ∷ l)) →
        cond x ([] ∷ records l) (before a (records (b ∷ l))) ≡ take (cond x 0 (suc m)) (a ∷ b ∷ l) ∷ records (drop (suc (suc (cond x 0 (suc m)))) (a ∷ b ∷ l))
    go true ih = refl
    go false ih = ap (before a) ih

-- the record at a place, and the records behind its CRLF
pub records-next : (s : List ℕ) (i : ℕ) → i < length s → records (drop i s) ≡ part s i (record_end s i) ∷ records (drop (record_end s i + 2) s)
unfolding record_end
records-next s i h =
    let n : ℕ = bytes_before at_crlf (drop i s) in
    let c : records (drop i s) ≡ take n (drop i s) ∷ records (drop (suc (suc n)) (drop i s)) = rw (drop-cons s i 0 h) (records_cut (get_or s i 0) (drop (suc i) s)) in
    let p : n ≡ i + n - i = omega arith in
    let q : i + suc (suc n) ≡ i + n + 2 = omega arith in
    c ∙ ap (λ (k : ℕ). take k (drop i s) ∷ records (drop (suc (suc n)) (drop i s))) p ∙ ap (λ (l : List ℕ). part s i (i + n) ∷ records l) (drop-drop (suc (suc n)) i s ∙ ap (λ (k : ℕ). drop k s) q)

fields_cut : (l : List ℕ) → fields l ≡ take (bytes_before at_comma l) l ∷ fields_after (drop (bytes_before at_comma l) l)
unfolding at_comma
fields_cut [] = refl
fields_cut (b ∷ l) = go (eqb b 44) (fields_cut l)
  where
    m : ℕ
    m = bytes_before at_comma l

    go : (x : Bool) → fields l ≡ take m l ∷ fields_after (drop m l) →
        cond x ([] ∷ fields l) (before b (fields l)) ≡ take (cond x 0 (suc m)) (b ∷ l) ∷ fields_after (drop (cond x 0 (suc m)) (b ∷ l))
    go true ih = refl
    go false ih = ap (before b) ih

-- the field at a place, and the fields behind it
pub fields-next : (s : List ℕ) (i : ℕ) → fields (drop i s) ≡ part s i (field_end s i) ∷ fields_after (drop (field_end s i) s)
unfolding field_end
fields-next s i =
    let n : ℕ = bytes_before at_comma (drop i s) in
    let p : n ≡ i + n - i = omega arith in
    fields_cut (drop i s) ∙ ap (λ (k : ℕ). take k (drop i s) ∷ fields_after (drop n (drop i s))) p ∙ ap (λ (l : List ℕ). part s i (i + n) ∷ fields_after l) (drop-drop n i s)

pub said-next : (s : List ℕ) (i : ℕ) → i < length s → said_behind s i ≡ unquoted (part s (i + 1) (field_end s (i + 1))) ∷ said_behind s (field_end s (i + 1))
unfolding said_behind
said-next s i h =
    let c : fields_after (drop i s) ≡ fields (drop (i + 1) s) = rw (add-one, drop-cons s i 0 h) refl in
    ap (map unquoted) (c ∙ fields-next s (i + 1))

pub said_end : (s : List ℕ) (i : ℕ) → i ≤ length s → length s ≤ i → said_behind s i ≡ []
unfolding said_behind
said_end s i h l =
    let e : i ≡ length s = omega arith in
    ap (λ (k : ℕ). map unquoted (fields_after (drop k s))) e ∙ ap (λ (k : List ℕ). map unquoted (fields_after k)) (drop-length s)

pub record-within : (s : List ℕ) (i end : ℕ) → end ≡ record_end s i → i ≤ length s → Within s i end
unfolding record_end
record-within s i end e h = end_within at_crlf s i end e h

pub field-within : (s : List ℕ) (i end : ℕ) → end ≡ field_end s i → i ≤ length s → Within s i end
unfolding field_end
field-within s i end e h = end_within at_comma s i end e h

-- The laws of numbers: a digit more, a byte that is none, a value too large, the end; and the two tests before the digits are read.
use Prim.Native.Nat.{ℕ, ◌+◌, ◌-◌, ◌*◌, ◌<◌, ◌≤◌}
use mathlib.Core.Path.{◌≡◌, refl, sym, ap, ◌∙◌}
use mathlib.Core.Logic.{◌⊎◌, inl, inr}
use mathlib.Core.Bool.{Bool, true, false, not, ◌&&◌, ◌||◌, cond}
use mathlib.Core.List.{List, [], ◌∷◌}
use native.Mathlib.Omega.{arith}
use native.Mathlib.Numerals.{add-one}
use borrow.Author.Tests.{lt-ltb, le-ltb, lt-leb, le-leb, eq-eqb, ne_eqb}
use lib.Dec.{eqb, ltb, leb}
use lib.ListN.{length, get_or, drop}
use lib.Seq.{drop-cons, drop-length}
use Rattle.model.proofs.Tests.{lt_or_ge}
use Rattle.model.specs.Lists.{every, all}
use Rattle.std.specs.Char.{is_ascii_digit}
use Rattle.program.specs.Text.{is_digit, value_behind, value_of, is_number}
use Rattle.text.specs.Places.{written_behind, number_of}
use Rattle.std.specs.Prelude.{Some, None}

digit_is : (b : ℕ) → is_ascii_digit b ≡ is_digit b
digit_is b = ap (λ (x : Bool). leb 48 b && x) (go (lt_or_ge b 58))
  where
    go : (b < 58) ⊎ (58 ≤ b) → leb b 57 ≡ ltb b 58
    go (inl h) = le-leb b 57 (omega arith) ∙ sym (lt-ltb b 58 h)
    go (inr h) = lt-leb b 57 (omega arith) ∙ sym (le-ltb b 58 h)

module _ (s : List ℕ) (i v : ℕ) (h : i < length s) where
  pub digits_more : (next : ℕ) → is_ascii_digit (get_or s i 0) ≡ true → next ≡ v * 10 + (get_or s i 0 - 48) → written_behind next (drop (i + 1) s) ≡ written_behind v (drop i s)
  unfolding written_behind
  digits_more next d e = rw (e, add-one, drop-cons s i 0 h) (simp (sym (digit_is (get_or s i 0)) ∙ d))

  pub digits_stop : is_ascii_digit (get_or s i 0) ≡ false → written_behind v (drop i s) ≡ None
  unfolding written_behind
  digits_stop d = rw (drop-cons s i 0 h) (simp (sym (digit_is (get_or s i 0)) ∙ d))

value_grows : (v : ℕ) (s : List ℕ) → v ≤ value_behind v s
value_grows v [] = omega arith
value_grows v (b ∷ s) = let l = value_grows (v * 10 + (b - 48)) s in omega (arith, l)

digits_over : (v : ℕ) (s : List ℕ) → 65535 < v → written_behind v s ≡ None
unfolding written_behind
digits_over v s h = go (all is_digit s) (leb (value_behind v s) 65535) (lt-leb (value_behind v s) 65535 (let l = value_grows v s in omega (arith, l)))
  where
    go : (a b : Bool) → b ≡ false → cond (a && b) (Some (value_behind v s)) None ≡ None
    go true b e = rw e refl
    go false b e = refl

pub digits_large : (s : List ℕ) (i v : ℕ) → i < length s → is_ascii_digit (get_or s i 0) ≡ true → 65535 < v * 10 + (get_or s i 0 - 48) → written_behind v (drop i s) ≡ None
digits_large s i v h d l = sym (digits_more s i v h (v * 10 + (get_or s i 0 - 48)) d refl) ∙ digits_over (v * 10 + (get_or s i 0 - 48)) (drop (i + 1) s) l

pub digits_end : (s : List ℕ) (i v : ℕ) → i ≤ length s → length s ≤ i → v ≤ 65535 → written_behind v (drop i s) ≡ Some v
unfolding written_behind
digits_end s i v h l b =
    let k : i ≡ length s = omega arith in
    rw (k, drop-length) (simp (le-leb v 65535 b))

-- the tests before the digits
pub number_none : (s : List ℕ) → length s ≡ 0 → number_of s ≡ None
unfolding number_of is_number
number_none s h = rw h refl

pub number_zero : (s : List ℕ) → 1 < length s → get_or s 0 0 ≡ 48 → number_of s ≡ None
unfolding number_of is_number
number_zero s h e = go (ltb 0 (length s)) (all is_digit s) (eqb (length s) 1) (ne_eqb (length s) 1 (λ q. omega arith)) (eqb (get_or s 0 0) 48) (eq-eqb (get_or s 0 0) 48 e)
  where
    go : (a b c : Bool) → c ≡ false → (d : Bool) → d ≡ true → cond (every (a ∷ b ∷ (c || not d) ∷ leb (value_of s) 65535 ∷ [])) (Some (value_of s)) None ≡ None
    go false b c p d q = refl
    go true false c p d q = refl
    go true true c p d q = rw (p, q) refl

number_is : (s : List ℕ) → 0 < length s → (eqb (length s) 1 || not (eqb (get_or s 0 0) 48)) ≡ true → written_behind 0 s ≡ number_of s
unfolding number_of is_number written_behind
number_is s h e = go (ltb 0 (length s)) (lt-ltb 0 (length s) h) (all is_digit s) (eqb (length s) 1 || not (eqb (get_or s 0 0) 48)) e (leb (value_of s) 65535)
  where
    go : (a : Bool) → a ≡ true → (b c : Bool) → c ≡ true → (d : Bool) → cond (b && d) (Some (value_of s)) None ≡ cond (every (a ∷ b ∷ c ∷ d ∷ [])) (Some (value_of s)) None
    go a p b c q d = rw (p, q) (last b d)
      where
        last : (b d : Bool) → cond (b && d) (Some (value_of s)) None ≡ cond (b && (d && true)) (Some (value_of s)) None
        last true true = refl
        last true false = refl
        last false d = refl

pub number_one : (s : List ℕ) → length s ≡ 1 → written_behind 0 s ≡ number_of s
number_one s h = number_is s (omega arith) (rw h refl)

pub number_more : (s : List ℕ) → 1 < length s → (get_or s 0 0 ≡ 48 → ⊥) → written_behind 0 s ≡ number_of s
number_more s h e = number_is s (omega arith) (simp (ne_eqb (length s) 1 (λ q. omega arith), ne_eqb (get_or s 0 0) 48 e))

-- what the first digits of a field say of it
pub ruleset first_digits = (number_none, number_zero, number_one, number_more)

-- Numbers of which the first n count: each is judged beside a mark that says whether it counts.
use Prim.Native.Nat.{ℕ, zero, suc, ◌+◌, ◌-◌, ◌≤◌, ◌<◌}
use mathlib.Core.Path.{◌≡◌, refl, sym, ap, ◌∙◌}
use mathlib.Core.Bool.{Bool, true, false, ◌&&◌, cond, and_assoc}
use mathlib.Core.List.{List, [], ◌∷◌, ◌++◌}
use native.Mathlib.Omega.{arith}
use native.Mathlib.Numerals.{add-one}
use lib.Bits.{bit_or}
use lib.Dec.{eqb}
use lib.ListN.{length, take, drop, replicate, get_or}
use lib.Seq.{drop-cons}
use Rattle.std.proofs.lemmas.List.{drop-replicate, drop-append-le, drop_all}
use Rattle.model.specs.Lists.{all, is_zero}
use Rattle.table.proofs.Zeros.{join_zero}

-- ── the marks ──

abbrev pub marks : List Bool
marks = true ∷ true ∷ true ∷ true ∷ true ∷ true ∷ true ∷ true ∷ false ∷ false ∷ false ∷ false ∷ false ∷ false ∷ false ∷ false ∷ []

marks-from : (n : ℕ) → n ≤ 8 → drop (8 - n) marks ≡ replicate n true ++ replicate 8 false
marks-from n h =
    let few : 8 - n ≤ length (replicate 8 true) = omega arith in
    let left : 8 - (8 - n) ≡ n = omega arith in
    drop-append-le (8 - n) (replicate 8 true) (replicate 8 false) few
    ∙ ap (λ (l : List Bool). l ++ replicate 8 false) (drop-replicate (8 - n) 8 true ∙ ap (λ (k : ℕ). replicate k true) left)

-- ── numbers beside marks ──

module _ (test : ℕ → Bool) where
  -- a number whose mark says that it counts passes the test, any other is 0
  abbrev pub fit : List ℕ → List Bool → Bool
  fit [] bs = true
  fit (x ∷ xs) [] = true
  fit (x ∷ xs) (b ∷ bs) = cond b (test x) (is_zero x) && fit xs bs

  none_count : (m : ℕ) (xs : List ℕ) → length xs ≤ m → fit xs (replicate m false) ≡ all is_zero xs
  none_count zero [] h = refl
  none_count (suc m) [] h = refl
  none_count zero (x ∷ xs) h = absurd (omega arith)
  none_count (suc m) (x ∷ xs) h = ap (λ (b : Bool). is_zero x && b) (none_count m xs (omega arith))

  first_count : (n m : ℕ) (xs : List ℕ) → length xs ≤ m → fit xs (replicate n true ++ replicate m false) ≡ (all test (take n xs) && all is_zero (drop n xs))
  first_count zero m xs h = none_count m xs h
  first_count (suc n) m [] h = refl
  first_count (suc n) m (x ∷ xs) h = ap (λ (b : Bool). test x && b) (first_count n m xs (omega arith)) ∙ sym (and_assoc (test x) (all test (take n xs)) (all is_zero (drop n xs)))

  -- the marks from 8 - n on say that the first n count
  pub first-counted : (n : ℕ) (xs : List ℕ) → n ≤ 8 → length xs ≤ 8 → fit xs (drop (8 - n + 0) marks) ≡ (all test (take n xs) && all is_zero (drop n xs))
  first-counted n xs h few = let e : 8 - n + 0 ≡ 8 - n = omega arith in ap (λ (k : ℕ). fit xs (drop k marks)) e ∙ ap (fit xs) (marks-from n h) ∙ first_count n 8 xs few

  -- what is wrong with the number at place j is joined
  pub fit_more : (wrong this j m : ℕ) (fits : Bool) (xs : List ℕ) → j < length xs → m + j < 16 → fits ≡ test (get_or xs j 0) → eqb this 0 ≡ cond (get_or marks (m + j) false) fits (is_zero (get_or xs j 0))
      → (eqb (bit_or wrong this) 0 && fit (drop (j + 1) xs) (drop (m + (j + 1)) marks)) ≡ (eqb wrong 0 && fit (drop j xs) (drop (m + j) marks))
  fit_more wrong this j m fits xs h k f w =
      let next : m + (j + 1) ≡ suc (m + j) = omega arith in
      let ahead : Bool = fit (drop (j + 1) xs) (drop (m + (j + 1)) marks) in
      ap (λ (b : Bool). b && ahead) (join_zero wrong this)
      ∙ and_assoc (eqb wrong 0) (eqb this 0) ahead
      ∙ ap (λ (b : Bool). eqb wrong 0 && (b && ahead)) (w ∙ ap (λ (b : Bool). cond (get_or marks (m + j) false) b (is_zero (get_or xs j 0))) f)
      ∙ ap (λ (l : List ℕ). eqb wrong 0 && (cond (get_or marks (m + j) false) (test (get_or xs j 0)) (is_zero (get_or xs j 0)) && fit l (drop (m + (j + 1)) marks))) (ap (λ (i : ℕ). drop i xs) (add-one j))
      ∙ ap (λ (i : ℕ). eqb wrong 0 && (cond (get_or marks (m + j) false) (test (get_or xs j 0)) (is_zero (get_or xs j 0)) && fit (drop (suc j) xs) (drop i marks))) next
      ∙ sym (λ i. eqb wrong 0 && fit (drop-cons xs j 0 h i) (drop-cons marks (m + j) false k i))

  pub all-judged : (xs : List ℕ) (j : ℕ) (bs : List Bool) → length xs ≤ j → fit (drop j xs) bs ≡ true
  all-judged xs j bs h = ap (λ (l : List ℕ). fit l bs) (drop_all j xs h)

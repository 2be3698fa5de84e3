-- Rights that are judged by their numbers, sixteen at a time.
use Prim.Native.Nat.{ℕ, zero, suc, ◌+◌, ◌*◌, ◌/◌, ◌%◌, ◌≤◌, ◌<◌}
use mathlib.Core.Path.{◌≡◌, refl, sym, ap, ◌∙◌}
use mathlib.Core.Bool.{Bool, true, false, not, ◌&&◌, ◌||◌, and-true, and_assoc}
use mathlib.Core.Logic.{◌⊎◌, inl, inr}
use mathlib.Core.List.{List, [], ◌∷◌}
use native.Mathlib.Omega.{arith}
use native.Mathlib.Nat.{div-eq_of_lt, le-div_iff_mul-le}
use lib.Bits.{bit_or}
use lib.Dec.{eqb, ltb}
use borrow.Author.Tests.{eq-eqb, ne_eqb, lt-ltb, le-ltb}
use lib.ListN.{length, get_or, take, drop}
use lib.Seq.{drop-drop}
use Rattle.std.specs.List.{fold, zip}
use Rattle.std.specs.Simd.{first_chunks}
use Rattle.model.specs.Lists.{all}
use Rattle.model.specs.Layout.{right_from, policy_of}
use Rattle.model.specs.Sound.{right_clauses, right_fits}
use Rattle.model.proofs.Tests.{lt_or_ge}
use Rattle.table.specs.Entries.{lent}
use Rattle.table.proofs.Zeros.{join_zero}
use Rattle.policy.specs.Fitting.{first_rights_fit, alone_fits}

-- ── the numbers beside their limits ──

abbrev pub pairs : ℕ → List ℕ
pairs zero = []
pairs (suc m) = 256 ∷ 1024 ∷ pairs m

-- a number that does not keep its limit is joined
abbrev pub over : Bool → ℕ × ℕ → Bool
over so_far number = so_far || not (ltb number.0 number.1)

sorted : (o a b rest : Bool) → (not ((o || not a) || not b) && rest) ≡ (not o && ((a && (b && true)) && rest))
sorted true a b rest = refl
sorted false true true rest = refl
sorted false true false rest = refl
sorted false false b rest = refl

pub within : (m : ℕ) (numbers : List ℕ) (o : Bool) → length numbers ≡ m * 2 → not (fold over o (zip numbers (pairs m))) ≡ (not o && first_rights_fit m numbers)
unfolding first_rights_fit right_clauses
within zero [] o h = sym (and-true (not o))
within zero (x ∷ l) o h = absurd (omega arith)
within (suc m) [] o h = absurd (omega arith)
within (suc m) (x ∷ []) o h = absurd (omega arith)
within (suc m) (x ∷ y ∷ l) o h = within m l (over (over o (x, 256)) (y, 1024)) (omega arith) ∙ sorted o (ltb x 256) (ltb y 1024) (first_rights_fit m l)

-- ── sixteen at a time ──

-- only the numbers of the first rights are asked
fit_alone : (m : ℕ) (l : List ℕ) → first_rights_fit m (take (m * 2) l) ≡ first_rights_fit m l
unfolding first_rights_fit
fit_alone zero l = refl
fit_alone (suc m) l =
    let e : suc m * 2 ≡ suc (suc (m * 2)) = omega arith in
    ap (λ (k : ℕ). first_rights_fit (suc m) (take k l)) e ∙ two (m * 2) l ∙ ap (λ (b : Bool). right_fits (right_from (take 2 l)) && b) (fit_alone m (drop 2 l))
  where
    two : (k : ℕ) (xs : List ℕ) → first_rights_fit (suc m) (take (suc (suc k)) xs) ≡ (right_fits (right_from (take 2 xs)) && first_rights_fit m (take k (drop 2 xs)))
    two zero [] = refl
    two (suc k) [] = refl
    two zero (x ∷ []) = refl
    two (suc k) (x ∷ []) = refl
    two k (x ∷ y ∷ xs) = refl

fit-parts : (m n : ℕ) (l : List ℕ) → first_rights_fit (m + n) l ≡ (first_rights_fit m l && first_rights_fit n (drop (m * 2) l))
unfolding first_rights_fit
fit-parts zero n l = let e : zero + n ≡ n = omega arith in ap (λ (k : ℕ). first_rights_fit k l) e
fit-parts (suc m) n l =
    let e : suc m + n ≡ suc (m + n) = omega arith in
    let d : suc m * 2 ≡ 2 + m * 2 = omega arith in
    ap (λ (k : ℕ). first_rights_fit k l) e
    ∙ ap (λ (b : Bool). right_fits (right_from (take 2 l)) && b) (fit-parts m n (drop 2 l))
    ∙ sym (and_assoc (right_fits (right_from (take 2 l))) (first_rights_fit m (drop 2 l)) (first_rights_fit n (drop (m * 2) (drop 2 l))))
    ∙ ap (λ (xs : List ℕ). first_rights_fit (suc m) l && first_rights_fit n xs) (drop-drop (m * 2) 2 l ∙ ap (λ (k : ℕ). drop k l) (sym d))

by_sixteens : (k : ℕ) (l : List ℕ) → all (first_rights_fit 16) (first_chunks 32 k l) ≡ first_rights_fit (k * 16) l
unfolding first_rights_fit
by_sixteens zero l = refl
by_sixteens (suc k) l =
    let e : 16 + k * 16 ≡ suc k * 16 = omega arith in
    (λ i. fit_alone 16 l i && by_sixteens k (drop 32 l) i) ∙ sym (fit-parts 16 (k * 16) l) ∙ ap (λ (m : ℕ). first_rights_fit m l) e

-- a number leaves nothing over exactly if it is below the limit
none_over : (x limit : ℕ) → 0 < limit → eqb (x / limit) 0 ≡ ltb x limit
none_over x limit p = go (lt_or_ge x limit)
  where
    go : (x < limit) ⊎ (limit ≤ x) → eqb (x / limit) 0 ≡ ltb x limit
    go (inl h) = eq-eqb (x / limit) 0 (div-eq_of_lt h) ∙ sym (lt-ltb x limit h)
    go (inr h) = ne_eqb (x / limit) 0 (λ e. omega (arith, e, (le-div_iff_mul-le {x = 1} {y = x} p).1 (omega (arith, h)))) ∙ sym (le-ltb x limit h)

-- one right more: what it leaves over is joined
right_over : (over role privilege : ℕ) → eqb (bit_or (bit_or over (role / 256)) (privilege / 1024)) 0 ≡ (eqb over 0 && right_fits (record { role = role; privilege = privilege }))
unfolding right_clauses
right_over over role privilege =
    join_zero (bit_or over (role / 256)) (privilege / 1024)
    ∙ (λ i. join_zero over (role / 256) i && none_over privilege 1024 (omega arith) i)
    ∙ (λ i. (eqb over 0 && none_over role 256 (omega arith) i) && ltb privilege 1024)
    ∙ and_assoc (eqb over 0) (ltb role 256) (ltb privilege 1024)
    ∙ ap (λ (v : Bool). eqb over 0 && (ltb role 256 && v)) (sym (and-true (ltb privilege 1024)))

-- what two numbers leave over their limits is joined
abbrev pub joined : ℕ → List ℕ → ℕ
joined so_far right = bit_or (bit_or so_far (get_or right 0 0 / 256)) (get_or right 1 0 / 1024)

pub none_joined : (rights : List (List ℕ)) (o : ℕ) → eqb (fold joined o rights) 0 ≡ (eqb o 0 && all alone_fits rights)
none_joined [] o = sym (and-true (eqb o 0))
none_joined (r ∷ rs) o =
    none_joined rs (joined o r)
    ∙ ap (λ (b : Bool). b && all alone_fits rs) (right_over o (get_or r 0 0) (get_or r 1 0))
    ∙ and_assoc (eqb o 0) (alone_fits r) (all alone_fits rs)

one_by_one : (k : ℕ) (l : List ℕ) → all alone_fits (first_chunks 2 k l) ≡ first_rights_fit k l
unfolding first_rights_fit
one_by_one zero l = refl
one_by_one (suc k) l = ap (λ (b : Bool). right_fits (right_from (take 2 l)) && b) (one_by_one k (drop 2 l))

-- sixteen at a time, and then one by one what is left
pub sixteens_and_rest : (l rest : List ℕ) → rest ≡ drop (length l / 32 * 32) l → length rest ≡ length l % 32
    → (all (first_rights_fit 16) (first_chunks 32 (length l / 32) l) && all alone_fits (first_chunks 2 (length rest / 2) rest)) ≡ all right_fits (policy_of (lent [] [] l)).rights
unfolding policy_of first_rights_fit
sixteens_and_rest l rest e size =
    let at : length l / 32 * 32 ≡ length l / 32 * 16 * 2 = omega arith in
    let count : length l / 32 * 16 + length rest / 2 ≡ length l / 2 = omega arith in
    (λ i. by_sixteens (length l / 32) l i && one_by_one (length rest / 2) rest i)
    ∙ ap (λ (xs : List ℕ). first_rights_fit (length l / 32 * 16) l && first_rights_fit (length rest / 2) xs) (e ∙ ap (λ (k : ℕ). drop k l) at)
    ∙ sym (fit-parts (length l / 32 * 16) (length rest / 2) l)
    ∙ ap (λ (k : ℕ). first_rights_fit k l) count

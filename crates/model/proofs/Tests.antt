-- Tests over lists, in words: what it says that some element passes, that every element does, that every clause is true.
use Prim.Native.Nat.{ℕ, zero, suc, ◌+◌, ◌<◌, ◌≤◌}
use mathlib.Core.Path.{◌≡◌, refl, sym, ap, ◌∙◌, subst, subst⁻¹}
use mathlib.Core.Bool.{Bool, true, false, not, ◌&&◌, ◌||◌, cond, true≢false}
use mathlib.Core.Logic.{◌≢◌, ◌⊎◌, inl, inr}
use mathlib.Core.List.Memᴰ
use mathlib.Core.List.{List, [], ◌∷◌, ◌++◌, append_assoc, append-nil, Memᴰ}
use native.Mathlib.Omega.{arith}
use lib.Dec.{T, eqb, ltb, eqb→eq, eqb_refl, ltb→lt, nltb→le, T_not}
use lib.ListN.{length, get_or, take, replicate, length-take}
use lib.Seq.{get_or-take}
use Rattle.model.specs.Lists.{every, any, all, all_over_earlier, first_place}

-- ── one test ──

pub is_true : (b : Bool) → T b → b ≡ true
is_true true t = refl
is_true false t = absurd t

pub of_true : (b : Bool) → b ≡ true → T b
of_true b e = subst⁻¹ T e tt

pub is_false : (b : Bool) → T (not b) → b ≡ false
is_false true t = absurd t
is_false false t = refl

pub of_false : (b : Bool) → b ≡ false → T (not b)
of_false b e = subst⁻¹ (λ (x : Bool). T (not x)) e tt

-- a test passes, or it does not
pub decide : (b : Bool) → T b ⊎ T (not b)
decide true = inl tt
decide false = inr tt

pub not_not : (b : Bool) → T (not (not b)) → T b
not_not true t = tt
not_not false t = t

pub not_not_of : (b : Bool) → T b → T (not (not b))
not_not_of true t = tt
not_not_of false t = t

pub lt_or_ge : (a b : ℕ) → (a < b) ⊎ (b ≤ a)
lt_or_ge a b = go (decide (ltb a b))
  where
    go : T (ltb a b) ⊎ T (not (ltb a b)) → (a < b) ⊎ (b ≤ a)
    go (inl t) = inl (ltb→lt a b t)
    go (inr t) = inr (nltb→le a b t)

pub eq_or_ne : (a b : ℕ) → (a ≡ b) ⊎ (a ≢ b)
eq_or_ne a b = go (decide (eqb a b))
  where
    go : T (eqb a b) ⊎ T (not (eqb a b)) → (a ≡ b) ⊎ (a ≢ b)
    go (inl t) = inl (eqb→eq a b t)
    go (inr t) = inr (λ e. T_not (eqb a b) t (subst (λ (n : ℕ). T (eqb a n)) e (eqb_refl a)))

pub and_left : (a b : Bool) → T (a && b) → T a
and_left true b t = tt
and_left false b t = t

pub and_right : (a b : Bool) → T (a && b) → T b
and_right true b t = t
and_right false b t = absurd t

pub and_both : (a b : Bool) → T a → T b → T (a && b)
and_both true b s t = t
and_both false b s t = s

pub or_left : (a b : Bool) → T a → T (a || b)
or_left true b t = tt
or_left false b t = absurd t

pub or_right : (a b : Bool) → T b → T (a || b)
or_right true b t = tt
or_right false b t = t

pub or_later : (a b : Bool) → b ≡ true → (a || b) ≡ true
or_later true b e = refl
or_later false b e = e

pub or_cases : (a b : Bool) → T (a || b) → T a ⊎ T b
or_cases true b t = inl tt
or_cases false b t = inr t

-- ── clauses ──

-- the clauses one by one
abbrev pub Each : List Bool → Type 0
Each [] = Unit {0}
Each (b ∷ bs) = T b × Each bs

pub each : (bs : List Bool) → T (every bs) → Each bs
each [] t = tt
each (b ∷ bs) t = (and_left b (every bs) t, each bs (and_right b (every bs) t))

pub of_each : (bs : List Bool) → Each bs → T (every bs)
of_each [] e = tt
of_each (b ∷ bs) e = and_both b (every bs) e.0 (of_each bs e.1)

-- ── lists ──

module _ {A : Type 0} where
  pub any_of : (test : A → Bool) (xs : List A) → T (any test xs) → (x : A) × Memᴰ x xs × T (test x)
  any_of test [] t = absurd t
  any_of test (x ∷ xs) t = go (λ u. any_of test xs u) (or_cases (test x) (any test xs) t)
    where
      deeper : (y : A) × Memᴰ y xs × T (test y) → (y : A) × Memᴰ y (x ∷ xs) × T (test y)
      deeper h = (h.0, Memᴰ.tail h.1, h.2)

      go : (T (any test xs) → (y : A) × Memᴰ y xs × T (test y)) → T (test x) ⊎ T (any test xs) → (y : A) × Memᴰ y (x ∷ xs) × T (test y)
      go later (inl h) = (x, Memᴰ.head refl, h)
      go later (inr h) = deeper (later h)

  pub of_any : (test : A → Bool) (x : A) (xs : List A) → Memᴰ x xs → T (test x) → T (any test xs)
  of_any test x [] m t = absurd (Memᴰ.not-nil m)
  of_any test x (y ∷ ys) m t = go (λ u. of_any test x ys u t) (Memᴰ.cases_cons m)
    where
      go : (Memᴰ x ys → T (any test ys)) → (x ≡ y) ⊎ Memᴰ x ys → T (any test (y ∷ ys))
      go later (inl e) = or_left (test y) (any test ys) (subst (λ (z : A). T (test z)) e t)
      go later (inr h) = or_right (test y) (any test ys) (later h)

  pub all_of : (test : A → Bool) (xs : List A) → T (all test xs) → (x : A) → Memᴰ x xs → T (test x)
  all_of test [] t x m = absurd (Memᴰ.not-nil m)
  all_of test (y ∷ ys) t x m = go (λ u. all_of test ys (and_right (test y) (all test ys) t) x u) (Memᴰ.cases_cons m)
    where
      go : (Memᴰ x ys → T (test x)) → (x ≡ y) ⊎ Memᴰ x ys → T (test x)
      go later (inl e) = subst⁻¹ (λ (z : A). T (test z)) e (and_left (test y) (all test ys) t)
      go later (inr h) = later h

  pub of_all : (test : A → Bool) (xs : List A) → ((x : A) → Memᴰ x xs → T (test x)) → T (all test xs)
  of_all test [] h = tt
  of_all test (y ∷ ys) h = and_both (test y) (all test ys) (h y (Memᴰ.head refl)) (of_all test ys (λ x m. h x (Memᴰ.tail m)))

  -- a test that passes wherever another does
  pub any-map : (f g : A → Bool) (xs ys : List A) → ((x : A) → Memᴰ x xs → T (f x) → Memᴰ x ys × T (g x)) → T (any f xs) → T (any g ys)
  any-map f g xs ys h t =
      let w : (x : A) × Memᴰ x xs × T (f x) = any_of f xs t in
      of_any g w.0 ys (h w.0 w.1 w.2).0 (h w.0 w.1 w.2).1

  pub any_append : (test : A → Bool) (xs ys : List A) → any test (xs ++ ys) ≡ (any test xs || any test ys)
  any_append test [] ys = refl
  any_append test (x ∷ xs) ys = go (test x) (any_append test xs ys)
    where
      go : (b : Bool) → any test (xs ++ ys) ≡ (any test xs || any test ys) → (b || any test (xs ++ ys)) ≡ ((b || any test xs) || any test ys)
      go true e = refl
      go false e = e

  pub all_append : (test : A → Bool) (xs ys : List A) → all test (xs ++ ys) ≡ (all test xs && all test ys)
  all_append test [] ys = refl
  all_append test (x ∷ xs) ys = go (test x) (all_append test xs ys)
    where
      go : (b : Bool) → all test (xs ++ ys) ≡ (all test xs && all test ys) → (b && all test (xs ++ ys)) ≡ ((b && all test xs) && all test ys)
      go true e = e
      go false e = refl

  -- the element at a place is a member
  pub at_place : (xs : List A) (i : ℕ) (d : A) → i < length xs → Memᴰ (get_or xs i d) xs
  at_place [] i d h = absurd (omega arith)
  at_place (x ∷ xs) zero d h = Memᴰ.head refl
  at_place (x ∷ xs) (suc i) d h = Memᴰ.tail (at_place xs i d (omega arith))

  -- a member stands at a place
  pub place_of : (xs : List A) (d x : A) → Memᴰ x xs → (i : ℕ) × (i < length xs) × (x ≡ get_or xs i d)
  place_of [] d x m = absurd (Memᴰ.not-nil m)
  place_of (y ∷ xs) d x m = go (place_of xs d x) (Memᴰ.cases_cons m)
    where
      go : (Memᴰ x xs → (i : ℕ) × (i < length xs) × (x ≡ get_or xs i d)) → (x ≡ y) ⊎ Memᴰ x xs → (i : ℕ) × (i < suc (length xs)) × (x ≡ get_or (y ∷ xs) i d)
      go later (inl e) = (0, omega arith, e)
      go later (inr h) = let p = later h in (suc p.0, omega (arith, p.1), p.2)

  -- the element at a place of the first n is one of them
  pub among_first : (xs : List A) (n i : ℕ) (d : A) → i < n → i < length xs → Memᴰ (get_or xs i d) (take n xs)
  among_first xs n i d h k = subst (λ (x : A). Memᴰ x (take n xs)) (get_or-take n xs i d h) (at_place (take n xs) i d (simp length-take (omega arith)))

  -- a list of one value has it at every place, and past the end by default
  pub repeated : (a : A) (n i : ℕ) → get_or (replicate n a) i a ≡ a
  repeated a zero i = refl
  repeated a (suc n) zero = refl
  repeated a (suc n) (suc i) = repeated a n i

  -- the first place that passes, where some place does
  pub first-place : (test : A → Bool) (xs : List A) (d : A) → T (any test xs)
      → (first_place test xs < length xs) × T (test (get_or xs (first_place test xs) d)) × ((i : ℕ) → i < first_place test xs → T (not (test (get_or xs i d))))
  first-place test [] d t = absurd t
  first-place test (x ∷ xs) d t = go (λ u. first-place test xs d u) (test x) refl t
    where
      go : (T (any test xs) → (first_place test xs < length xs) × T (test (get_or xs (first_place test xs) d)) × ((i : ℕ) → i < first_place test xs → T (not (test (get_or xs i d)))))
          → (b : Bool) → test x ≡ b → T (b || any test xs)
          → (cond b 0 (suc (first_place test xs)) < suc (length xs)) × T (test (get_or (x ∷ xs) (cond b 0 (suc (first_place test xs))) d)) × ((i : ℕ) → i < cond b 0 (suc (first_place test xs)) → T (not (test (get_or (x ∷ xs) i d))))
      go later true e u = (omega arith, of_true (test x) e, λ i h. absurd (omega arith))
      go later false e u = (omega (arith, (later u).0), (later u).1, before)
        where
          before : (i : ℕ) → i < suc (first_place test xs) → T (not (test (get_or (x ∷ xs) i d)))
          before zero h = of_false (test x) e
          before (suc i) h = (later u).2 i (omega arith)

  pub first-none : (test : A → Bool) (l : List A) → any test l ≡ false → first_place test l ≡ length l
  first-none test [] e = refl
  first-none test (x ∷ l) e = go (test x) e (first-none test l)
    where
      go : (b : Bool) → (b || any test l) ≡ false → (any test l ≡ false → first_place test l ≡ length l) → cond b 0 (suc (first_place test l)) ≡ suc (length l)
      go true q f = absurd (true≢false q)
      go false q f = ap suc (f q)

  -- a place within the list is found exactly if something passes
  pub found-any : (test : A → Bool) (l : List A) → first_place test l < length l → any test l ≡ true
  found-any test [] h = absurd (omega arith)
  found-any test (x ∷ l) h = go (test x) h (found-any test l)
    where
      go : (b : Bool) → cond b 0 (suc (first_place test l)) < suc (length l) → (first_place test l < length l → any test l ≡ true) → (b || any test l) ≡ true
      go true q f = refl
      go false q f = f (omega arith)

  pub not_found : (test : A → Bool) (l : List A) → length l ≤ first_place test l → any test l ≡ false
  not_found test [] h = refl
  not_found test (x ∷ l) h = go (test x) h (not_found test l)
    where
      go : (b : Bool) → suc (length l) ≤ cond b 0 (suc (first_place test l)) → (length l ≤ first_place test l → any test l ≡ false) → (b || any test l) ≡ false
      go true q f = absurd (omega arith)
      go false q f = f (omega arith)

  -- every element over those before it: one more at the end
  pub earlier_append : (test : List A → A → Bool) (earlier xs ys : List A)
      → all_over_earlier test earlier (xs ++ ys) ≡ (all_over_earlier test earlier xs && all_over_earlier test (earlier ++ xs) ys)
  earlier_append test earlier [] ys = ap (λ (l : List A). all_over_earlier test l ys) (sym (append-nil earlier))
  earlier_append test earlier (x ∷ xs) ys = go (test earlier x) (earlier_append test (earlier ++ (x ∷ [])) xs ys)
    where
      go : (b : Bool) → all_over_earlier test (earlier ++ (x ∷ [])) (xs ++ ys) ≡ (all_over_earlier test (earlier ++ (x ∷ [])) xs && all_over_earlier test ((earlier ++ (x ∷ [])) ++ xs) ys)
          → (b && all_over_earlier test (earlier ++ (x ∷ [])) (xs ++ ys)) ≡ ((b && all_over_earlier test (earlier ++ (x ∷ [])) xs) && all_over_earlier test (earlier ++ (x ∷ xs)) ys)
      go true e = e ∙ ap (λ (l : List A). all_over_earlier test (earlier ++ (x ∷ [])) xs && all_over_earlier test l ys) (append_assoc earlier (x ∷ []) xs)
      go false e = refl

  pub earlier_last : (test : List A → A → Bool) (xs : List A) (x : A) → T (all_over_earlier test [] xs) → T (test xs x) → T (all_over_earlier test [] (xs ++ (x ∷ [])))
  earlier_last test xs x a t = subst⁻¹ T (earlier_append test [] xs (x ∷ [])) (and_both (all_over_earlier test [] xs) (test xs x && true) a (and_both (test xs x) true t tt))

  -- a test that passes wherever another does
  pub earlier_map : (f g : List A → A → Bool) → ((earlier : List A) (x : A) → T (f earlier x) → T (g earlier x)) → (earlier xs : List A) → T (all_over_earlier f earlier xs) → T (all_over_earlier g earlier xs)
  earlier_map f g h earlier [] t = tt
  earlier_map f g h earlier (x ∷ xs) t =
      and_both (g earlier x) (all_over_earlier g (earlier ++ (x ∷ [])) xs) (h earlier x (and_left (f earlier x) (all_over_earlier f (earlier ++ (x ∷ [])) xs) t))
      (earlier_map f g h (earlier ++ (x ∷ [])) xs (and_right (f earlier x) (all_over_earlier f (earlier ++ (x ∷ [])) xs) t))

  -- a member passes over the elements before it
  pub earlier_of : (test : List A → A → Bool) (earlier xs : List A) → T (all_over_earlier test earlier xs) → (x : A) → Memᴰ x xs
      → (before : List A) × (after : List A) × (xs ≡ before ++ (x ∷ after)) × T (test (earlier ++ before) x)
  earlier_of test earlier [] t x m = absurd (Memᴰ.not-nil m)
  earlier_of test earlier (y ∷ ys) t x m = go (λ u. earlier_of test (earlier ++ (y ∷ [])) ys (and_right (test earlier y) (all_over_earlier test (earlier ++ (y ∷ [])) ys) t) x u) (Memᴰ.cases_cons m)
    where
      Found : Type 0
      Found = (before : List A) × (after : List A) × (y ∷ ys ≡ before ++ (x ∷ after)) × T (test (earlier ++ before) x)

      deeper : (before : List A) × (after : List A) × (ys ≡ before ++ (x ∷ after)) × T (test ((earlier ++ (y ∷ [])) ++ before) x) → Found
      deeper h = (y ∷ h.0, h.1, ap (λ (l : List A). y ∷ l) h.2, subst (λ (l : List A). T (test l x)) (append_assoc earlier (y ∷ []) h.0) h.3)

      go : (Memᴰ x ys → (before : List A) × (after : List A) × (ys ≡ before ++ (x ∷ after)) × T (test ((earlier ++ (y ∷ [])) ++ before) x)) → (x ≡ y) ⊎ Memᴰ x ys → Found
      go later (inl e) =
          ([], ys, ap (λ (z : A). z ∷ ys) (sym e), subst⁻¹ (λ (l : List A). T (test l x)) (append-nil earlier) (subst⁻¹ (λ (z : A). T (test earlier z)) e (and_left (test earlier y) (all_over_earlier test (earlier ++ (y ∷ [])) ys) t)))
      go later (inr h) = deeper (later h)

-- ── a test that is computed over all numbers below a limit ──

-- the test passes at each number below n
abbrev pub below : (ℕ → Bool) → ℕ → Bool
below test zero = true
below test (suc n) = below test n && test n

pub below_at : (test : ℕ → Bool) (n : ℕ) → T (below test n) → (k : ℕ) → k < n → test k ≡ true
below_at test zero t k h = absurd (omega arith)
below_at test (suc n) t k h = go (lt_or_ge k n) (below_at test n (and_left (below test n) (test n) t) k)
  where
    go : (k < n) ⊎ (n ≤ k) → (k < n → test k ≡ true) → test k ≡ true
    go (inl l) earlier = earlier l
    go (inr l) earlier = let e : n ≡ k = omega arith in subst (λ (m : ℕ). test m ≡ true) e (is_true (test n) (and_right (below test n) (test n) t))

-- ── the last arm of a match ──

-- none of the n numbers from `low` on, as the last arm knows it
abbrev pub NoneOf : ℕ → ℕ → ℕ → Type 0
NoneOf number low zero = Unit {0}
NoneOf number low (suc n) = NoneOf number low n × (number ≡ low + n → ⊥)

past : (number low n : ℕ) → low ≤ number → NoneOf number low n → low + n ≤ number
past number low zero h none = omega arith
past number low (suc n) h none = next (past number low n h none.0) none.1
  where
    next : low + n ≤ number → (number ≡ low + n → ⊥) → low + suc n ≤ number
    next l e = omega arith

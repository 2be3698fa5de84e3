-- Parts of a list, in its order: what a part inherits, and what is left when some elements are taken out.
use Prim.Native.Nat.{suc, ◌≤◌}
use mathlib.Core.Path.{◌≡◌, refl, ap, ◌∙◌, subst, subst⁻¹}
use mathlib.Core.Bool.{Bool, true, false, not, cond}
use mathlib.Core.Logic.{◌⊎◌, inl, inr}
use mathlib.Core.List.Memᴰ
use mathlib.Core.List.{List, [], ◌∷◌, ◌++◌, append-nil, Memᴰ}
use mathlib.Core.List.Sublistᴰ
use mathlib.Core.List.{Sublistᴰ}
use mathlib.Core.Nat.{le_antisymm}
use native.Mathlib.Omega.{arith}
use lib.Dec.{T, T_not}
use lib.ListN.{length}
use Rattle.model.specs.Lists.{all_over_earlier, without}
use Rattle.model.proofs.Tests.{and_left, and_right, and_both, decide, of_true, of_false}

module _ {A : Type 0} where
  pub part_antisym : (xs ys : List A) → Sublistᴰ xs ys → Sublistᴰ ys xs → xs ≡ ys
  part_antisym xs ys d e = Sublistᴰ.eq_of_length d (le_antisymm (Sublistᴰ.length-le d) (Sublistᴰ.length-le e))

  pub part-member : (x : A) (xs ys : List A) → Sublistᴰ xs ys → Memᴰ x xs → Memᴰ x ys
  part-member x xs [] d m = subst (λ (l : List A). Memᴰ x l) (Sublistᴰ.eq-nil d) m
  part-member x xs (y ∷ ys) d m = go (λ zs u v. part-member x zs ys u v) (Sublistᴰ.cases_cons d)
    where
      below : (zs : List A) → (Memᴰ x zs → Memᴰ x ys) → (x ≡ y) ⊎ Memᴰ x zs → Memᴰ x (y ∷ ys)
      below zs f (inl e) = Memᴰ.head e
      below zs f (inr h) = Memᴰ.tail (f h)

      go : ((zs : List A) → Sublistᴰ zs ys → Memᴰ x zs → Memᴰ x ys) → Sublistᴰ xs ys ⊎ ((zs : List A) × (xs ≡ y ∷ zs) × Sublistᴰ zs ys) → Memᴰ x (y ∷ ys)
      go f (inl s) = Memᴰ.tail (f xs s m)
      go f (inr t) = below t.0 (f t.0 t.2) (Memᴰ.cases_cons (subst (λ (l : List A). Memᴰ x l) t.1 m))

  -- the beginning of a list is a part of it
  pub part-front : (xs ys : List A) → Sublistᴰ xs (xs ++ ys)
  part-front xs ys = subst (λ (l : List A). Sublistᴰ l (xs ++ ys)) (append-nil xs) (Sublistᴰ.append (Sublistᴰ.refl xs) (Sublistᴰ.nil-sublist ys))

  -- the library says this of its own numbers; code counts with the native ones
  pub part_length : (xs ys : List A) → Sublistᴰ xs ys → length xs ≤ length ys
  part_length xs [] d = subst⁻¹ (λ (l : List A). length l ≤ 0) (Sublistᴰ.eq-nil d) (omega arith)
  part_length xs (y ∷ ys) d = go (λ zs u. part_length zs ys u) (Sublistᴰ.cases_cons d)
    where
      go : ((zs : List A) → Sublistᴰ zs ys → length zs ≤ length ys) → Sublistᴰ xs ys ⊎ ((zs : List A) × (xs ≡ y ∷ zs) × Sublistᴰ zs ys) → length xs ≤ suc (length ys)
      go f (inl u) = omega (arith, f xs u)
      go f (inr t) = omega (arith, f t.0 t.2, ap length t.1)

  -- ── without ──

  pub without-part : (gone : A → Bool) (rows : List A) → Sublistᴰ (without gone rows) rows
  without-part gone [] = Sublistᴰ.slnil
  without-part gone (r ∷ rs) = go (gone r) (without-part gone rs)
    where
      go : (b : Bool) → Sublistᴰ (without gone rs) rs → Sublistᴰ (cond b (without gone rs) (r ∷ without gone rs)) (r ∷ rs)
      go true d = Sublistᴰ.cons d
      go false d = Sublistᴰ.cons-cons refl d

  -- what is left does not pass the test
  pub without-member : (gone : A → Bool) (rows : List A) (x : A) → Memᴰ x (without gone rows) → T (not (gone x))
  without-member gone [] x m = absurd (Memᴰ.not-nil m)
  without-member gone (r ∷ rs) x m = go (gone r) refl (without-member gone rs x) m
    where
      here : gone r ≡ false → (Memᴰ x (without gone rs) → T (not (gone x))) → (x ≡ r) ⊎ Memᴰ x (without gone rs) → T (not (gone x))
      here e f (inl q) = subst⁻¹ (λ (z : A). T (not (gone z))) q (of_false (gone r) e)
      here e f (inr h) = f h

      go : (b : Bool) → gone r ≡ b → (Memᴰ x (without gone rs) → T (not (gone x))) → Memᴰ x (cond b (without gone rs) (r ∷ without gone rs)) → T (not (gone x))
      go true e f u = f u
      go false e f u = here e f (Memᴰ.cases_cons u)

  pub without-keeps : (gone : A → Bool) (rows : List A) (x : A) → Memᴰ x rows → T (not (gone x)) → Memᴰ x (without gone rows)
  without-keeps gone [] x m n = absurd (Memᴰ.not-nil m)
  without-keeps gone (r ∷ rs) x m n = go (gone r) refl (λ k. without-keeps gone rs x k n) (Memᴰ.cases_cons m)
    where
      go : (b : Bool) → gone r ≡ b → (Memᴰ x rs → Memᴰ x (without gone rs)) → (x ≡ r) ⊎ Memᴰ x rs → Memᴰ x (cond b (without gone rs) (r ∷ without gone rs))
      go true e f (inl q) = absurd (T_not (gone r) (subst (λ (z : A). T (not (gone z))) q n) (of_true (gone r) e))
      go true e f (inr k) = f k
      go false e f (inl q) = Memᴰ.head q
      go false e f (inr k) = Memᴰ.tail (f k)

  -- a part that has none of what is taken out is a part of what is left
  pub part_without : (gone : A → Bool) (xs rows : List A) → Sublistᴰ xs rows → ((x : A) → Memᴰ x xs → T (not (gone x))) → Sublistᴰ xs (without gone rows)
  part_without gone xs [] d h = subst⁻¹ (λ (l : List A). Sublistᴰ l []) (Sublistᴰ.eq-nil d) Sublistᴰ.slnil
  part_without gone xs (y ∷ ys) d h = go (λ zs u v. part_without gone zs ys u v) (Sublistᴰ.cases_cons d)
    where
      skip : (b : Bool) → Sublistᴰ xs (without gone ys) → Sublistᴰ xs (cond b (without gone ys) (y ∷ without gone ys))
      skip true u = u
      skip false u = Sublistᴰ.cons u

      take_it : (zs : List A) → xs ≡ y ∷ zs → Sublistᴰ zs (without gone ys) → (b : Bool) → gone y ≡ b → Sublistᴰ xs (cond b (without gone ys) (y ∷ without gone ys))
      take_it zs e u true q = absurd (T_not (gone y) (h y (subst⁻¹ (λ (l : List A). Memᴰ y l) e (Memᴰ.head refl))) (of_true (gone y) q))
      take_it zs e u false q = subst⁻¹ (λ (l : List A). Sublistᴰ l (y ∷ without gone ys)) e (Sublistᴰ.cons-cons refl u)

      go : ((zs : List A) → Sublistᴰ zs ys → ((x : A) → Memᴰ x zs → T (not (gone x))) → Sublistᴰ zs (without gone ys)) → Sublistᴰ xs ys ⊎ ((zs : List A) × (xs ≡ y ∷ zs) × Sublistᴰ zs ys) → Sublistᴰ xs (cond (gone y) (without gone ys) (y ∷ without gone ys))
      go f (inl s) = skip (gone y) (f xs s h)
      go f (inr t) = take_it t.0 t.1 (f t.0 t.2 (λ x m. h x (subst⁻¹ (λ (l : List A). Memᴰ x l) t.1 (Memᴰ.tail m)))) (gone y) refl

  pub without-append : (gone : A → Bool) (xs ys : List A) → without gone (xs ++ ys) ≡ without gone xs ++ without gone ys
  without-append gone [] ys = refl
  without-append gone (x ∷ xs) ys = go (gone x) (without-append gone xs ys)
    where
      go : (b : Bool) → without gone (xs ++ ys) ≡ without gone xs ++ without gone ys → cond b (without gone (xs ++ ys)) (x ∷ without gone (xs ++ ys)) ≡ cond b (without gone xs) (x ∷ without gone xs) ++ without gone ys
      go true e = e
      go false e = ap (λ (l : List A). x ∷ l) e

  -- tests that agree on the list leave the same
  pub without-same : (f g : A → Bool) (xs : List A) → ((x : A) → Memᴰ x xs → f x ≡ g x) → without f xs ≡ without g xs
  without-same f g [] h = refl
  without-same f g (x ∷ xs) h = go (f x) (g x) (h x (Memᴰ.head refl)) (without-same f g xs (λ y m. h y (Memᴰ.tail m)))
    where
      go : (a b : Bool) → a ≡ b → without f xs ≡ without g xs → cond a (without f xs) (x ∷ without f xs) ≡ cond b (without g xs) (x ∷ without g xs)
      go a b e q = λ i. cond (e i) (q i) (x ∷ q i)

  -- taking out twice
  pub without-twice : (f g h : A → Bool) (xs : List A) → ((x : A) → T (h x) → T (f x) ⊎ T (g x)) → ((x : A) → T (f x) → T (h x)) → ((x : A) → T (g x) → T (h x)) → without g (without f xs) ≡ without h xs
  without-twice f g h xs out inf ing =
      part_antisym (without g (without f xs)) (without h xs)
      (part_without h (without g (without f xs)) xs (Sublistᴰ.trans (without-part g (without f xs)) (without-part f xs))
      (λ x m. both x (out x) (without-member f xs x (part-member x _ _ (without-part g (without f xs)) m)) (without-member g (without f xs) x m)))
      (part_without g (without h xs) (without f xs) (part_without f (without h xs) xs (without-part h xs) (λ x m. away x f inf (without-member h xs x m)))
      (λ x m. away x g ing (without-member h xs x m)))
    where
      both : (x : A) → (T (h x) → T (f x) ⊎ T (g x)) → T (not (f x)) → T (not (g x)) → T (not (h x))
      both x o nf ng = go (decide (h x))
        where
          one : T (f x) ⊎ T (g x) → ⊥
          one (inl t) = T_not (f x) nf t
          one (inr t) = T_not (g x) ng t

          go : T (h x) ⊎ T (not (h x)) → T (not (h x))
          go (inl t) = absurd (one (o t))
          go (inr t) = t

      away : (x : A) (k : A → Bool) → ((y : A) → T (k y) → T (h y)) → T (not (h x)) → T (not (k x))
      away x k sub nh = go (decide (k x))
        where
          go : T (k x) ⊎ T (not (k x)) → T (not (k x))
          go (inl t) = absurd (T_not (h x) nh (sub x t))
          go (inr t) = t

  -- nothing to take out
  pub without-none : (gone : A → Bool) (xs : List A) → ((x : A) → Memᴰ x xs → T (not (gone x))) → without gone xs ≡ xs
  without-none gone xs h = part_antisym (without gone xs) xs (without-part gone xs) (part_without gone xs xs (Sublistᴰ.refl xs) h)

  -- ── every element over those before it ──

  -- a test that fewer earlier elements do not spoil holds for each part
  pub earlier_part : (test : List A → A → Bool) → ((few many : List A) (x : A) → Sublistᴰ few many → T (test many x) → T (test few x))
      → (before earlier xs ys : List A) → Sublistᴰ before earlier → Sublistᴰ xs ys → T (all_over_earlier test earlier ys) → T (all_over_earlier test before xs)
  earlier_part test fewer before earlier xs [] d e t = subst⁻¹ (λ (l : List A). T (all_over_earlier test before l)) (Sublistᴰ.eq-nil e) tt
  earlier_part test fewer before earlier xs (y ∷ ys) d e t = go (λ b zs u v. earlier_part test fewer b (earlier ++ (y ∷ [])) zs ys u v later) (Sublistᴰ.cases_cons e)
    where
      later : T (all_over_earlier test (earlier ++ (y ∷ [])) ys)
      later = and_right (test earlier y) (all_over_earlier test (earlier ++ (y ∷ [])) ys) t

      go : ((b zs : List A) → Sublistᴰ b (earlier ++ (y ∷ [])) → Sublistᴰ zs ys → T (all_over_earlier test b zs)) → Sublistᴰ xs ys ⊎ ((zs : List A) × (xs ≡ y ∷ zs) × Sublistᴰ zs ys) → T (all_over_earlier test before xs)
      go f (inl u) = f before xs (Sublistᴰ.trans d (part-front earlier (y ∷ []))) u
      go f (inr w) =
          subst⁻¹ (λ (l : List A). T (all_over_earlier test before l)) w.1
          (and_both (test before y) (all_over_earlier test (before ++ (y ∷ [])) w.0)
          (fewer before earlier y d (and_left (test earlier y) (all_over_earlier test (earlier ++ (y ∷ [])) ys) t))
          (f (before ++ (y ∷ [])) w.0 (Sublistᴰ.append d (Sublistᴰ.refl (y ∷ []))) w.2))

  -- a test that passes over what is left, wherever it passed before on a row that stays
  pub earlier_without : (test : List A → A → Bool) (gone : A → Bool) → ((earlier : List A) (x : A) → T (not (gone x)) → T (test earlier x) → T (test (without gone earlier) x))
      → (earlier xs : List A) → T (all_over_earlier test earlier xs) → T (all_over_earlier test (without gone earlier) (without gone xs))
  earlier_without test gone stays earlier [] t = tt
  earlier_without test gone stays earlier (x ∷ xs) t = go (gone x) refl (subst (λ (l : List A). T (all_over_earlier test l (without gone xs))) (without-append gone earlier (x ∷ [])) (earlier_without test gone stays (earlier ++ (x ∷ [])) xs (and_right (test earlier x) (all_over_earlier test (earlier ++ (x ∷ [])) xs) t)))
    where
      go : (b : Bool) → gone x ≡ b → T (all_over_earlier test (without gone earlier ++ cond (gone x) [] (x ∷ [])) (without gone xs)) → T (all_over_earlier test (without gone earlier) (cond b (without gone xs) (x ∷ without gone xs)))
      go true e u = subst (λ (l : List A). T (all_over_earlier test l (without gone xs))) (ap (λ (b : Bool). without gone earlier ++ cond b [] (x ∷ [])) e ∙ append-nil (without gone earlier)) u
      go false e u =
          and_both (test (without gone earlier) x) (all_over_earlier test (without gone earlier ++ (x ∷ [])) (without gone xs))
          (stays earlier x (of_false (gone x) e) (and_left (test earlier x) (all_over_earlier test (earlier ++ (x ∷ [])) xs) t))
          (subst (λ (l : List A). T (all_over_earlier test l (without gone xs))) (ap (λ (b : Bool). without gone earlier ++ cond b [] (x ∷ [])) e) u)

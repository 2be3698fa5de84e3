-- What a chain of an iterator answers, in the words of specs/Lists: `all`, `any` and `position` over a list, and over what a function
-- makes of the numbers below an end.
use Prim.Native.Nat.{ℕ, suc, ◌+◌, ◌<◌, ◌≤◌}
use Rattle.std.proofs.lemmas.Iterator.{YieldsList}
use Rattle.std.proofs.lemmas.Iterator.Search.{all_from_yields_List, any_from_yields_List, position_from_yields_List}
use Rattle.std.specs.Fn.{Called}
use Rattle.std.specs.Iterator.{YieldsThen}
use Rattle.std.specs.List.{FoldsTo, list_all, list_any, position, position_or_len}
use Rattle.std.specs.Option.{MatchOption}
use Rattle.std.proofs.Common.{Some, None, is_some}
use Rattle.std.specs.declared.option.Option.{Option}
use denote.Param.Members.{Mut}
use borrow.Author.Tests.{ltb-true, ltb-false}
use lib.Dec.{ltb}
use lib.ListN.{length, length-map}
use mathlib.Core.Bool.{Bool, true, false, not, ◌&&◌, ◌||◌, cond}
use mathlib.Core.List.{List, map, [], ◌∷◌}
use mathlib.Core.Path.{◌≡◌, refl, sym, ap, ◌∙◌}
use native.Mathlib.Numerals.{one-add}
use native.Mathlib.Omega.{arith}
use Rattle.model.specs.Lists.{all, any, first_place}

module _ {A : Type 0} (test : A → Bool) where
  list_all_is : (xs : List A) → list_all test xs ≡ all test xs
  list_all_is [] = refl
  list_all_is (x ∷ xs) = ap (λ (b : Bool). test x && b) (list_all_is xs)

  list_any_is : (xs : List A) → list_any test xs ≡ any test xs
  list_any_is [] = refl
  list_any_is (x ∷ xs) = ap (λ (b : Bool). test x || b) (list_any_is xs)

module _ {A B : Type 0} (test : B → Bool) (f : A → B) where
  pub all_map : (xs : List A) → all (λ (x : A). test (f x)) xs ≡ all test (map f xs)
  all_map [] = refl
  all_map (x ∷ xs) = ap (λ (b : Bool). test (f x) && b) (all_map xs)

  pub any_map : (xs : List A) → any (λ (x : A). test (f x)) xs ≡ any test (map f xs)
  any_map [] = refl
  any_map (x ∷ xs) = ap (λ (b : Bool). test (f x) || b) (any_map xs)

  pub first_place_map : (xs : List A) → first_place (λ (x : A). test (f x)) xs ≡ first_place test (map f xs)
  first_place_map [] = refl
  first_place_map (x ∷ xs) = ap (λ (n : ℕ). cond (test (f x)) 0 (suc n)) (first_place_map xs)

module _ {A B : Type 0} (test : B → Bool) (f : A → B) where
  position_or_len_map : (xs : List A) → position_or_len (λ (x : A). test (f x)) xs ≡ position_or_len test (map f xs)
  position_or_len_map [] = refl
  position_or_len_map (x ∷ xs) = ap (λ (n : ℕ). cond (not (test (f x))) (1 + n) 0) (position_or_len_map xs)

  pub position_map : (xs : List A) → position (λ (x : A). test (f x)) xs ≡ position test (map f xs)
  position_map xs = λ j. cond (ltb (position_or_len_map xs j) (sym (length-map xs f) j)) (Some (position_or_len_map xs j)) None

-- ── what `position` says of the place of the first that passes ──

module _ {A : Type 0} (test : A → Bool) where
  first_place_is : (xs : List A) → first_place test xs ≡ position_or_len test xs
  first_place_is [] = refl
  first_place_is (x ∷ xs) = go (test x) (first_place_is xs)
    where
      go : (b : Bool) → first_place test xs ≡ position_or_len test xs → cond b 0 (suc (first_place test xs)) ≡ cond (not b) (1 + position_or_len test xs) 0
      go true e = refl
      go false e = ap suc e ∙ sym (one-add (position_or_len test xs))

  pub placed : (xs : List A) (i : ℕ) → position test xs ≡ Some i → (i ≡ first_place test xs) × (i < length xs)
  placed xs i = go (ltb (position_or_len test xs) (length xs)) refl
    where
      go : (b : Bool) → ltb (position_or_len test xs) (length xs) ≡ b → cond b (Some (position_or_len test xs)) None ≡ Some i → (i ≡ first_place test xs) × (i < length xs)
      go true e q =
          let is : position_or_len test xs ≡ i = cc in
          let below : position_or_len test xs < length xs = ltb-true _ _ e in
          (sym is ∙ sym (first_place_is xs), omega arith)
      go false e q = absurd cc

  pub unplaced : (xs : List A) → position test xs ≡ None → length xs ≤ first_place test xs
  unplaced xs = go (ltb (position_or_len test xs) (length xs)) refl
    where
      go : (b : Bool) → ltb (position_or_len test xs) (length xs) ≡ b → cond b (Some (position_or_len test xs)) None ≡ None → length xs ≤ first_place test xs
      go true e q = absurd cc
      go false e q = let above : length xs ≤ position_or_len test xs = ltb-false _ _ e in omega (arith, first_place_is xs)

  -- the same of a place that is only asked whether it is one
  pub place_below : (xs : List A) (place : Option ℕ) → place ≡ position test xs → is_some place ≡ true → first_place test xs < length xs
  place_below xs (Some i) at e = let p = placed xs i (sym at) in omega (arith, p.0, p.1)
  place_below xs None at e = absurd (cc)

  pub no_place_below : (xs : List A) (place : Option ℕ) → place ≡ position test xs → is_some place ≡ false → length xs ≤ first_place test xs
  no_place_below xs (Some i) at e = absurd (cc)
  no_place_below xs None at e = unplaced xs (sym at)

module _ {S A B F : Type 0} {steps : S → Option A → S → Type 0} {v : A → B} {g : Mut F (A × Unit {0}) Bool} {s : S} {items : List B} where
  pub all_of_chain : (test : B → Bool) (u : S) (f : F) (r : Bool) → (xs : List A) × (o : Option A) × (j : F) × YieldsThen steps s xs o u × FoldsTo (λ p x q. Called g p (x, tt) true q) f xs j × MatchOption o (r ≡ true) (λ x. (r ≡ false) × ((h : F) × Called g j (x, tt) false h)) → YieldsList steps v s items → ((x : A) (b : Bool) (q : F) → Called g f (x, tt) b q → (q ≡ f) × (b ≡ test (v x))) → r ≡ all test items
  all_of_chain test u f r ran yields calls = all_from_yields_List test u f r ran yields calls ∙ list_all_is test items

  pub any_of_chain : (test : B → Bool) (u : S) (f : F) (r : Bool) → (xs : List A) × (o : Option A) × (j : F) × YieldsThen steps s xs o u × FoldsTo (λ p x q. Called g p (x, tt) false q) f xs j × MatchOption o (r ≡ false) (λ x. (r ≡ true) × ((h : F) × Called g j (x, tt) true h)) → YieldsList steps v s items → ((x : A) (b : Bool) (q : F) → Called g f (x, tt) b q → (q ≡ f) × (b ≡ test (v x))) → r ≡ any test items
  any_of_chain test u f r ran yields calls = any_from_yields_List test u f r ran yields calls ∙ list_any_is test items

  pub position_of_chain : (test : B → Bool) (u : S) (f : F) (r : Option ℕ) → (xs : List A) × (o : Option A) × (j : F) × YieldsThen steps s xs o u × FoldsTo (λ p x q. Called g p (x, tt) false q) f xs j × MatchOption o (r ≡ None) (λ x. (r ≡ Some (length xs)) × ((h : F) × Called g j (x, tt) true h)) → YieldsList steps v s items → ((x : A) (b : Bool) (q : F) → Called g f (x, tt) b q → (q ≡ f) × (b ≡ test (v x))) → r ≡ position test items
  position_of_chain test u f r ran yields calls = position_from_yields_List test u f r ran yields calls

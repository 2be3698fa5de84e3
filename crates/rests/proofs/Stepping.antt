-- The first role that a row rests on: what code finds condition by condition is the model's.
use Prim.Native.Nat.{ℕ, zero, suc, ◌+◌, ◌≤◌, ◌<◌}
use mathlib.Core.Path.{◌≡◌, refl, sym, ap, ◌∙◌}
use mathlib.Core.List.{List, [], ◌∷◌, ◌++◌, append_assoc}
use native.Mathlib.Omega.{arith}
use native.Mathlib.Numerals.{add-one}
use lib.ListN.{length, get_or, take}
use lib.Seq.{take-suc, take_all}
use Rattle.std.specs.List.{slice_get}
use Rattle.std.specs.Prelude.{Some, None}
use Rattle.model.specs.Lists.{joined}
use Rattle.model.specs.Values.{Tables}
use Rattle.model.specs.Layout.{policy_of}
use Rattle.model.specs.Conditions.{meant, membership, rule_numbered, roles_asked, rests_on}
use Rattle.model.specs.declared.Row.{Row}
use Rattle.table.specs.Entries.{without_rights}
use Rattle.rests.proofs.Asking.{roles-same}

-- ── lists that are joined ──

module _ {A : Type 0} where
  empty_parts : (xs ys : List A) → xs ++ ys ≡ [] → (xs ≡ []) × (ys ≡ [])
  empty_parts [] ys e = (refl, e)
  empty_parts (x ∷ xs) ys e = let z : suc (length (xs ++ ys)) ≡ 0 = ap length e in absurd (omega arith)

  -- what the first of a list, or none, says of the list
  pub some-first : (xs : List A) (x d : A) → Some x ≡ slice_get xs 0 → get_or xs 0 d ≡ x
  some-first [] x d e = absurd (cc)
  some-first (y ∷ xs) x d e = let p : x ≡ y = cc in sym p

  pub no-first : (xs : List A) → None ≡ slice_get xs 0 → xs ≡ []
  no-first [] e = refl
  no-first (x ∷ xs) e = absurd (cc)

  first-stays : (xs ys : List A) (o : A) → Some o ≡ slice_get xs 0 → Some o ≡ slice_get (xs ++ ys) 0
  first-stays [] ys o e = absurd (cc)
  first-stays (x ∷ xs) ys o e = e

module _ {A B : Type 0} (f : A → List B) where
  joined-append : (xs ys : List A) → joined f (xs ++ ys) ≡ joined f xs ++ joined f ys
  joined-append [] ys = refl
  joined-append (x ∷ xs) ys = ap (λ (l : List B). f x ++ l) (joined-append xs ys) ∙ sym (append_assoc (f x) (joined f xs) (joined f ys))

  -- one element more that gives nothing
  joined-next : (l : List A) (d : A) (i : ℕ) → i < length l → joined f (take i l) ≡ [] → f (get_or l i d) ≡ [] → joined f (take (i + 1) l) ≡ []
  joined-next l d i h a b = ap (λ (n : ℕ). joined f (take n l)) (add-one i) ∙ ap (joined f) (take-suc l i d h) ∙ joined-append (take i l) (get_or l i d ∷ []) ∙ (λ j. a j ++ (b j ++ []))

  -- the first element that gives something gives the first
  joined_first : (l : List A) (d : A) (o : B) (i : ℕ) → i < length l → joined f (take i l) ≡ [] → Some o ≡ slice_get (f (get_or l i d)) 0 → Some o ≡ slice_get (joined f l) 0
  joined_first [] d o i h e z = absurd (omega arith)
  joined_first (x ∷ l) d o zero h e z = first-stays (f x) (joined f l) o z
  joined_first (x ∷ l) d o (suc i) h e z =
      let parts : (f x ≡ []) × (joined f (take i l) ≡ []) = empty_parts (f x) (joined f (take i l)) e in
      joined_first l d o i (omega arith) parts.1 z ∙ ap (λ (w : List B). slice_get (w ++ joined f l) 0) (sym parts.0)

-- ── the row's own membership conditions ──

module _ (rules kinds : List ℕ) (row : Row) (cs : List ℕ) (own : cs ≡ membership (rule_numbered (policy_of (without_rights rules [])) row.rule)) where
  abbrev asks : ℕ → List ℕ
  asks c = roles_asked (policy_of (without_rights [] kinds)) (meant c)

  rests : rests_on (policy_of (without_rights rules kinds)) row ≡ joined asks cs
  unfolding rests_on policy_of
  rests =
      (λ j. joined (λ (c : ℕ). roles-same (policy_of (without_rights rules kinds)) (policy_of (without_rights [] kinds)) refl (meant c) j) (membership (rule_numbered (policy_of (without_rights rules [])) row.rule)))
      ∙ ap (joined asks) (sym own)

  -- a condition that asks for no role is passed over
  pub step_more : (i : ℕ) → i < length cs → joined asks (take i cs) ≡ [] → None ≡ slice_get (asks (get_or cs i 0)) 0 → joined asks (take (i + 1) cs) ≡ []
  step_more i h a b = joined-next asks cs 0 i h a (no-first (asks (get_or cs i 0)) b)

  -- the first that asks for one gives it
  pub step-found : (i q : ℕ) → i < length cs → joined asks (take i cs) ≡ [] → Some q ≡ slice_get (asks (get_or cs i 0)) 0 → Some q ≡ slice_get (rests_on (policy_of (without_rights rules kinds)) row) 0
  step-found i q h a b = joined_first asks cs 0 q i h a b ∙ ap (λ (w : List ℕ). slice_get w 0) (sym rests)

  pub step-none : (i : ℕ) → length cs ≤ i → joined asks (take i cs) ≡ [] → None ≡ slice_get (rests_on (policy_of (without_rights rules kinds)) row) 0
  step-none i h a = ap (λ (w : List ℕ). slice_get w 0) (sym (rests ∙ ap (joined asks) (sym (take_all i cs h)) ∙ a))

-- what a row rests on reads no rights
pub rests_same : (t : Tables) (row : Row) → rests_on (policy_of (without_rights t.rules t.kinds)) row ≡ rests_on (policy_of t) row
unfolding rests_on policy_of
rests_same t row = λ j. joined (λ (c : ℕ). roles-same (policy_of (without_rights t.rules t.kinds)) (policy_of t) refl (meant c) j) (membership (rule_numbered (policy_of t) row.rule))

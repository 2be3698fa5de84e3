-- What a chain over the numbers below an end answers, where each number is that of an entry.
use Prim.Native.Nat.{ℕ, zero, suc, ◌+◌, ◌*◌}
use Rattle.std.proofs.iter.Yields.{nat_range_steps}
use Rattle.std.proofs.lemmas.Iterator.{YieldsList-from_range}
use Rattle.std.specs.Fn.{Called}
use Rattle.std.specs.Iterator.{YieldsThen}
use Rattle.std.specs.List.{range_with_len, FoldsTo, position}
use Rattle.std.specs.Option.{MatchOption}
use Rattle.std.proofs.Common.{Some, None, length}
use Rattle.std.specs.declared.option.Option.{Option}
use Rattle.std.specs.declared.ops.Range.{Range}
use denote.Param.Members.{Mut}
use mathlib.Core.Bool.{Bool, true, false}
use mathlib.Core.List.{List, map, ◌∷◌}
use mathlib.Core.Path.{◌≡◌, refl, sym, ap, ◌∙◌}
use native.Mathlib.Omega.{arith}
use native.Mathlib.Nat.{suc-mul, zero-mul}
use native.Mathlib.Numerals.{add-one}
use lib.ListN.{drop}
use lib.Seq.{drop-drop}
use Rattle.model.specs.Lists.{all, any}
use Rattle.model.proofs.Chains.{all_of_chain, any_of_chain, position_of_chain, all_map, any_map, position_map}
use Rattle.table.specs.Entries.{entry, entries}

module _ {A : Type 0} (from : List ℕ → A) (width : ℕ) (table : List ℕ) where
  entries_from : (a n : ℕ) → map (entry from width table) (range_with_len a n) ≡ entries from width (drop (a * width) table) n
  entries_from a zero = refl
  entries_from a (suc n) =
      ap (λ (l : List A). entry from width table a ∷ l)
      (entries_from (a + 1) n
      ∙ ap (λ (l : List ℕ). entries from width l n) (ap (λ (k : ℕ). drop k table) (ap (λ (k : ℕ). k * width) (add-one a) ∙ suc-mul a width) ∙ sym (drop-drop width (a * width) table)))

  -- the entries of the first n numbers are the first n entries
  pub entries_by_number : (n : ℕ) → map (entry from width table) (range_with_len 0 n) ≡ entries from width table n
  entries_by_number n = entries_from 0 n ∙ ap (λ (k : ℕ). entries from width (drop k table) n) (zero-mul width)

  module _ {F : Type 0} {g : Mut F (ℕ × Unit {0}) Bool} {s : Range ℕ} where
    -- `all` and `any` of the numbers below n, by a closure that tests the entry of the number
    pub all_of_entries : (test : A → Bool) (n : ℕ) (u : Range ℕ) (f : F) (r : Bool) → (xs : List ℕ) × (o : Option ℕ) × (j : F) × YieldsThen nat_range_steps s xs o u × FoldsTo (λ p x q. Called g p (x, tt) true q) f xs j × MatchOption o (r ≡ true) (λ x. (r ≡ false) × ((h : F) × Called g j (x, tt) false h)) → s ≡ record { start = 0; end = n } → ((i : ℕ) (b : Bool) (q : F) → Called g f (i, tt) b q → (q ≡ f) × (b ≡ test (entry from width table i))) → r ≡ all test (entries from width table n)
    all_of_entries test n u f r ran numbers calls =
        all_of_chain (λ (i : ℕ). test (entry from width table i)) u f r ran (YieldsList-from_range 0 n n numbers (omega arith)) calls
        ∙ all_map test (entry from width table) (range_with_len 0 n)
        ∙ ap (all test) (entries_by_number n)

    pub any_of_entries : (test : A → Bool) (n : ℕ) (u : Range ℕ) (f : F) (r : Bool) → (xs : List ℕ) × (o : Option ℕ) × (j : F) × YieldsThen nat_range_steps s xs o u × FoldsTo (λ p x q. Called g p (x, tt) false q) f xs j × MatchOption o (r ≡ false) (λ x. (r ≡ true) × ((h : F) × Called g j (x, tt) true h)) → s ≡ record { start = 0; end = n } → ((i : ℕ) (b : Bool) (q : F) → Called g f (i, tt) b q → (q ≡ f) × (b ≡ test (entry from width table i))) → r ≡ any test (entries from width table n)
    any_of_entries test n u f r ran numbers calls =
        any_of_chain (λ (i : ℕ). test (entry from width table i)) u f r ran (YieldsList-from_range 0 n n numbers (omega arith)) calls
        ∙ any_map test (entry from width table) (range_with_len 0 n)
        ∙ ap (any test) (entries_by_number n)

    pub place_of_entries : (test : A → Bool) (n : ℕ) (u : Range ℕ) (f : F) (r : Option ℕ) → (xs : List ℕ) × (o : Option ℕ) × (j : F) × YieldsThen nat_range_steps s xs o u × FoldsTo (λ p x q. Called g p (x, tt) false q) f xs j × MatchOption o (r ≡ None) (λ x. (r ≡ Some (length xs)) × ((h : F) × Called g j (x, tt) true h)) → s ≡ record { start = 0; end = n } → ((i : ℕ) (b : Bool) (q : F) → Called g f (i, tt) b q → (q ≡ f) × (b ≡ test (entry from width table i))) → r ≡ position test (entries from width table n)
    place_of_entries test n u f r ran numbers calls =
        position_of_chain (λ (i : ℕ). test (entry from width table i)) u f r ran (YieldsList-from_range 0 n n numbers (omega arith)) calls
        ∙ position_map test (entry from width table) (range_with_len 0 n)
        ∙ ap (position test) (entries_by_number n)

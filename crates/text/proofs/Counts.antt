-- The constant table of field counts has what the vocabulary says of each word; no word has more fields behind it than a line has numbers.
use Rattle.std.proofs.Common.{ℕ, ◌<◌, ◌≤◌, ◌≡◌, Bool, true, false, ◌&&◌, List, [], ◌∷◌, refl, sym, ap, ◌∙◌, subst, slice_index_or}
use lib.Dec.{leb}
use borrow.Author.Tests.{leb-true, le-leb, lt-leb}
use Rattle.model.proofs.Tests.{below_at}
use Rattle.program.specs.Vocabulary.{words, numbered}
use Rattle.program.specs.Lines.{most_numbers}
use Rattle.program.specs.Said.{number_of}
use Rattle.program.specs.declared.Word.{Word}
use Rattle.program.specs.declared.Word.TheVariants.{Rule, Kind, Right, Activate, Appoint, Revoke, Withdraw, Env, Logout, Invoke, Effective}

abbrev pub counts : List (ℕ × ℕ)
counts = (2, 10) ∷ (2, 6) ∷ (2, 2) ∷ (2, 2) ∷ (3, 3) ∷ (4, 4) ∷ (3, 3) ∷ (2, 2) ∷ (1, 1) ∷ (2, 2) ∷ (3, 3) ∷ []

abbrev of_word : Word → ℕ × ℕ
of_word w = ((numbered (number_of w)).least, (numbered (number_of w)).greatest)

counts_are : (w : Word) → slice_index_or counts (number_of w) (0, 0) ≡ of_word w
counts_are Rule = refl
counts_are Kind = refl
counts_are Right = refl
counts_are Activate = refl
counts_are Appoint = refl
counts_are Revoke = refl
counts_are Withdraw = refl
counts_are Env = refl
counts_are Logout = refl
counts_are Invoke = refl
counts_are Effective = refl

module _ (w : Word) (place count : ℕ) (e : place ≡ number_of w) where
  here : slice_index_or counts place (0, 0) ≡ of_word w
  here = ap (λ (n : ℕ). slice_index_or counts n (0, 0)) e ∙ counts_are w

  pub count_enough : (slice_index_or counts place (0, 0)).0 ≤ count → leb count (slice_index_or counts place (0, 0)).1 ≡ (leb (numbered (number_of w)).least count && leb count (numbered (number_of w)).greatest)
  count_enough l =
      let enough : (numbered (number_of w)).least ≤ count = subst (λ (p : ℕ × ℕ). p.0 ≤ count) here l in
      ap (λ (p : ℕ × ℕ). leb count p.1) here ∙ sym (ap (λ (b : Bool). b && leb count (numbered (number_of w)).greatest) (le-leb (numbered (number_of w)).least count enough))

  pub count_few : count < (slice_index_or counts place (0, 0)).0 → leb (slice_index_or counts place (0, 0)).0 count ≡ (leb (numbered (number_of w)).least count && leb count (numbered (number_of w)).greatest)
  count_few l =
      let few : count < (numbered (number_of w)).least = subst (λ (p : ℕ × ℕ). count < p.0) here l in
      let none : leb (numbered (number_of w)).least count ≡ false = lt-leb (numbered (number_of w)).least count few in
      ap (λ (p : ℕ × ℕ). leb p.0 count) here ∙ none ∙ sym (ap (λ (b : Bool). b && leb count (numbered (number_of w)).greatest) none)

pub greatest-within : (word : ℕ) → word < words → (numbered word).greatest ≤ most_numbers
greatest-within word known = leb-true (numbered word).greatest most_numbers (below_at (λ (w : ℕ). leb (numbered w).greatest most_numbers) words tt word known)

-- A line has one of the words, and as many numbers as the word asks for, or the number past the words.
use Prim.Native.Nat.{ℕ, ◌<◌, ◌≤◌}
use mathlib.Core.Path.{◌≡◌, refl}
use mathlib.Core.Bool.{Bool, true, false, cond}
use mathlib.Core.List.{List, [], ◌∷◌, map}
use native.Mathlib.Omega.{arith}
use borrow.Author.Tests.{leb-true}
use lib.Dec.{leb, ltb→lt}
use lib.ListN.{length}
use Rattle.model.specs.Lists.{every, filled_to}
use Rattle.model.proofs.Tests.{is_true, of_true, each}
use Rattle.program.specs.Text.{value_of, said}
use Rattle.program.specs.Vocabulary.{words, word_of, numbered}
use Rattle.program.specs.Said.{number_of}
use Rattle.program.specs.declared.Word.{Word}
use Rattle.program.specs.declared.Word.TheVariants.{Rule, Kind, Right, Activate, Appoint, Revoke, Withdraw, Env, Logout, Invoke, Effective}
use Rattle.program.specs.Lines.{Line, most_numbers, unknown, line_clauses, line_from, line_of_fields, line_of}

abbrev Counted : Line → Type 0
Counted l = l.word < words → ((numbered l.word).least ≤ l.count) × (l.count ≤ (numbered l.word).greatest)

bounds : (word : ℕ) (arguments : List (List ℕ)) → every (line_clauses word arguments) ≡ true → ((numbered word).least ≤ length arguments) × (length arguments ≤ (numbered word).greatest)
unfolding line_clauses
bounds word arguments e =
    let holds = each (line_clauses word arguments) (of_true (every (line_clauses word arguments)) e) in
    (leb-true (numbered word).least (length arguments) (is_true (leb (numbered word).least (length arguments)) holds.1.0), leb-true (length arguments) (numbered word).greatest (is_true (leb (length arguments) (numbered word).greatest) holds.1.1.0))

from_counted : (word : ℕ) (arguments : List (List ℕ)) → Counted (line_from word arguments)
unfolding line_from
from_counted word arguments = go (every (line_clauses word arguments)) refl
  where
    go : (b : Bool) → every (line_clauses word arguments) ≡ b →
        Counted (cond b (record { word = word; count = length arguments; numbers = filled_to most_numbers (map value_of arguments) }) unknown)
    go true e h = bounds word arguments e
    go false e h = absurd (omega arith)

fields_counted : (fields : List (List ℕ)) → Counted (line_of_fields fields)
fields_counted [] h = absurd (omega arith)
fields_counted (first ∷ arguments) h = from_counted (word_of first) arguments h

pub counted : (bytes : List ℕ) → (line_of bytes).word < words → ((numbered (line_of bytes).word).least ≤ (line_of bytes).count) × ((line_of bytes).count ≤ (numbered (line_of bytes).word).greatest)
unfolding line_of
counted bytes = fields_counted (said bytes)

fields-known : (fields : List (List ℕ)) → (line_of_fields fields).word ≤ words
unfolding line_from line_clauses
fields-known [] = omega arith
fields-known (first ∷ arguments) = go (every (line_clauses (word_of first) arguments)) refl
  where
    go : (b : Bool) → every (line_clauses (word_of first) arguments) ≡ b → (cond b (record { word = word_of first; count = length arguments; numbers = filled_to most_numbers (map value_of arguments) }) unknown).word ≤ words
    go true e = let k : word_of first < words = ltb→lt (word_of first) words (each (line_clauses (word_of first) arguments) (of_true (every (line_clauses (word_of first) arguments)) e)).0 in omega (arith, k)
    go false e = omega arith

pub known : (bytes : List ℕ) → (line_of bytes).word ≤ words
unfolding line_of
known bytes = fields-known (said bytes)

-- each word of code has a number of the vocabulary's
pub named_known : (word : Word) → number_of word < words
named_known Rule = omega arith
named_known Kind = omega arith
named_known Right = omega arith
named_known Activate = omega arith
named_known Appoint = omega arith
named_known Revoke = omega arith
named_known Withdraw = omega arith
named_known Env = omega arith
named_known Logout = omega arith
named_known Invoke = omega arith
named_known Effective = omega arith

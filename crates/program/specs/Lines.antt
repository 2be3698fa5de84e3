-- What a record says, as a line: a word and its numbers, or nothing that the program knows. "An unknown word, a wrong field count,
-- a field that isn't such a number, other quoting, a CR or LF outside a CRLF, an empty record".
use Rattle.std.specs.Prelude.{ℕ, Bool, cond, List, [], ◌∷◌, map, eqb, ltb, leb, length, replicate}
use Rattle.model.specs.Lists.{every, all, filled_to}
use Rattle.program.specs.Text.{is_number, value_of, said}
use Rattle.program.specs.Vocabulary.{words, word_of, numbered}

-- a rule's target, its m and its eight conditions: no word takes more
abbrev pub most_numbers : ℕ
most_numbers = 10

-- a word by its number, how many numbers follow, and these, those past the count being 0
pub record Line : Type 0 where
  pub word : ℕ
  pub count : ℕ
  pub numbers : List ℕ

abbrev pub unknown : Line
unknown = record { word = words; count = 0; numbers = replicate most_numbers 0 }

abbrev pub is_unknown : Line → Bool
is_unknown l = eqb l.word words

-- what a word and the fields behind it have to be
unfoldable pub line_clauses : ℕ → List (List ℕ) → List Bool
line_clauses word arguments =
    ltb word words
    ∷ leb (numbered word).least (length arguments)
    ∷ leb (length arguments) (numbered word).greatest
    ∷ all is_number arguments
    ∷ []

unfoldable pub line_from : ℕ → List (List ℕ) → Line
line_from word arguments = cond (every (line_clauses word arguments)) (record { word = word; count = length arguments; numbers = filled_to most_numbers (map value_of arguments) }) unknown

-- a record has at least one field, its word
abbrev pub line_of_fields : List (List ℕ) → Line
line_of_fields [] = unknown
line_of_fields (first ∷ arguments) = line_from (word_of first) arguments

unfoldable pub line_of : List ℕ → Line
line_of bytes = line_of_fields (said bytes)

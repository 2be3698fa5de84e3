-- A text by its places, as code reads it: where a record and a field end, the bytes between two places, and a field's number.
use Rattle.std.specs.Prelude.{ℕ, suc, ◌+◌, ◌-◌, ◌≤◌, Bool, ◌&&◌, cond, List, [], ◌∷◌, map, eqb, leb, length, get_or, take, drop, Option, Some, None}
use Rattle.model.specs.Lists.{all}
use Rattle.program.specs.Text.{comma, cr, lf, fields, unquoted, is_digit, value_behind, value_of, is_number}

-- the bytes from a place up to another
abbrev pub part : List ℕ → ℕ → ℕ → List ℕ
part text from to = take (to - from) (drop from text)

-- both places stand in the text, in their order
pub record Within (text : List ℕ) (from to : ℕ) : Type 0 where
  pub ordered : from ≤ to
  pub inside : to ≤ length text

-- what is left of a text begins with a CRLF
unfoldable pub at_crlf : List ℕ → Bool
at_crlf left = eqb (get_or left 0 0) cr && eqb (get_or left 1 0) lf

-- what is left of a record begins with a comma
unfoldable pub at_comma : List ℕ → Bool
at_comma left = eqb (get_or left 0 0) comma

-- how many bytes stand before the first place at which what is left passes the test; all of them, where there is none
abbrev pub bytes_before : (List ℕ → Bool) → List ℕ → ℕ
bytes_before test [] = 0
bytes_before test (b ∷ text) = cond (test (b ∷ text)) 0 (suc (bytes_before test text))

abbrev pub end_from : (List ℕ → Bool) → List ℕ → ℕ → ℕ
end_from test text from = from + bytes_before test (drop from text)

-- where the record that begins at `from` ends: at a CRLF, or at the text's end
unfoldable pub record_end : List ℕ → ℕ → ℕ
record_end text from = end_from at_crlf text from

-- where the field that begins at `from` ends: at a comma, or at the record's end
unfoldable pub field_end : List ℕ → ℕ → ℕ
field_end bytes from = end_from at_comma bytes from

-- the fields behind a field: none where nothing is left, else those behind the comma
abbrev pub fields_after : List ℕ → List (List ℕ)
fields_after [] = []
fields_after (b ∷ left) = fields left

-- what the fields say behind the one that ends at the place
unfoldable pub said_behind : List ℕ → ℕ → List (List ℕ)
said_behind bytes place = map unquoted (fields_after (drop place bytes))

-- the number of a field, if it is one
unfoldable pub number_of : List ℕ → Option ℕ
number_of field = cond (is_number field) (Some (value_of field)) None

-- the number that digits write behind those that write `value`, if they are digits and it is not above 65,535; leading zeros are
-- not looked at
unfoldable pub written_behind : ℕ → List ℕ → Option ℕ
written_behind value field = cond (all is_digit field && leb (value_behind value field) 65535) (Some (value_behind value field)) None

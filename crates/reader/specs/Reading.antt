-- What a reader finds at its place of a text, and where it goes on. At the text's end and past it there is no record: what is found
-- there is empty, and the reader stands at the end.
use Rattle.std.specs.Prelude.{ℕ, ◌+◌, min, List, [], length, get_or}
use Rattle.program.specs.Text.{said}
use Rattle.program.specs.Lines.{Line, line_of}
use Rattle.text.specs.Places.{part, record_end}

-- the bytes of the record that begins at the place
unfoldable pub record_at : List ℕ → ℕ → List ℕ
record_at text at = part text at (record_end text at)

-- its first field, "without the quotes around it if it has them"
unfoldable pub first_field_at : List ℕ → ℕ → List ℕ
first_field_at text at = get_or (said (record_at text at)) 0 []

-- what it says
unfoldable pub line_at : List ℕ → ℕ → Line
line_at text at = line_of (record_at text at)

-- where the next record begins. "Records end in CRLF, which the last may lack": behind the CRLF, or at the text's end
unfoldable pub next_at : List ℕ → ℕ → ℕ
next_at text at = min (record_end text at + 2) (length text)

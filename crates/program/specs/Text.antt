-- How a text is cut into records and a record into fields, what a field says, and which fields are numbers. A text is its bytes,
-- and a byte is a number. "The program".
use Rattle.std.specs.Prelude.{ℕ, zero, suc, ◌+◌, ◌-◌, ◌*◌, ◌/◌, ◌%◌, Bool, not, ◌&&◌, ◌||◌, cond, List, [], ◌∷◌, ◌++◌, map, eqb, ltb, leb, length, get_or, take, drop}
use Prim.Native.Char.{code}
use Prim.Native.String.{String, [] as no-letter, ◌∷◌ as ◌then◌}
use Rattle.model.specs.Lists.{every, all}

-- the bytes of a quoted text, all of whose characters are ASCII
abbrev pub ascii : String → List ℕ
ascii no-letter = []
ascii (c then letters) = code c ∷ ascii letters

abbrev pub comma : ℕ
comma = 44

abbrev pub quote : ℕ
quote = 34

abbrev pub cr : ℕ
cr = 13

abbrev pub lf : ℕ
lf = 10

abbrev pub digit_zero : ℕ
digit_zero = 48

-- the byte before all others of the first piece
abbrev pub before : ℕ → List (List ℕ) → List (List ℕ)
before b [] = (b ∷ []) ∷ []
before b (piece ∷ pieces) = (b ∷ piece) ∷ pieces

-- "Records end in CRLF, which the last may lack." So a CRLF at the very end opens no further record, the empty text has none, and
-- a CRLF alone is one empty record. A CR or an LF elsewhere stays in its record, where it is part of no word and of no number
abbrev pub records : List ℕ → List (List ℕ)
records [] = []
records (a ∷ []) = (a ∷ []) ∷ []
records (a ∷ b ∷ text) = cond (eqb a cr && eqb b lf) ([] ∷ records text) (before a (records (b ∷ text)))

-- the bytes between the commas: one field more than there are commas
abbrev pub fields : List ℕ → List (List ℕ)
fields [] = [] ∷ []
fields (b ∷ bytes) = cond (eqb b comma) ([] ∷ fields bytes) (before b (fields bytes))

-- "without the quotes around it if it has them". "only what could stand there unquoted may stand between the quotes: no comma,
-- quote, CR or LF": none of these is part of a word or of a number, so a field with one of them is neither, and a comma between
-- quotes leaves two fields with a quote in each
unfoldable pub is_quoted : List ℕ → Bool
is_quoted field = leb 2 (length field) && (eqb (get_or field 0 0) quote && eqb (get_or field (length field - 1) 0) quote)

unfoldable pub unquoted : List ℕ → List ℕ
unquoted field = cond (is_quoted field) (take (length field - 2) (drop 1 field)) field

-- what the fields of a record say
abbrev pub said : List ℕ → List (List ℕ)
said bytes = map unquoted (fields bytes)

abbrev pub is_digit : ℕ → Bool
is_digit b = leb digit_zero b && ltb b (digit_zero + 10)

-- the number that the digits write, behind digits that write `value`
abbrev pub value_behind : ℕ → List ℕ → ℕ
value_behind value [] = value
value_behind value (b ∷ digits) = value_behind (value * 10 + (b - digit_zero)) digits

abbrev pub value_of : List ℕ → ℕ
value_of digits = value_behind 0 digits

-- "Numbers are decimal, 0 to 65,535, with no leading zero"
unfoldable pub is_number : List ℕ → Bool
is_number field =
    every
    (ltb 0 (length field)
    ∷ all is_digit field
    ∷ (eqb (length field) 1 || not (eqb (get_or field 0 0) digit_zero))
    ∷ leb (value_of field) 65535
    ∷ [])

-- a number as it is written: a digit, or the tenth part and a digit. The tenth part of a number above 0 is lower, so that as many
-- steps as the number says are enough
abbrev pub decimal_within : ℕ → ℕ → List ℕ
decimal_within zero n = (digit_zero + n) ∷ []
decimal_within (suc steps) n = let higher = decimal_within steps (n / 10) in cond (ltb n 10) ((digit_zero + n) ∷ []) (higher ++ ((digit_zero + n % 10) ∷ []))

abbrev pub decimal : ℕ → List ℕ
decimal n = decimal_within n n

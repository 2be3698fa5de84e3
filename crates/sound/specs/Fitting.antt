-- What is judged in parts: of a row by itself, before it is judged over the rows before it, as only users, roles and kinds in range have
-- a mark; and of a state's form.
use Rattle.std.specs.Prelude.{ℕ, ◌+◌, ◌*◌, Bool, true, false, ◌&&◌, Option, Some, None, List, [], ◌∷◌, eqb, ltb, leb, length, take, drop}
use Rattle.model.specs.Lists.{every, all, is_zero, is_bit}
use Rattle.model.specs.Limits.{users, roles, most_rows, row_width, most_certificates, certificate_width}
use Rattle.model.specs.Layout.{number, fact_numbers, row_count_at, certificate_count_at}
use Rattle.model.specs.Values.{Policy}
use Rattle.model.specs.Conditions.{rule_numbered}
use Rattle.model.specs.declared.Row.{Row}
use Rattle.support.specs.declared.Verdict.{Verdict}
use Rattle.support.specs.declared.Verdict.TheVariants.{Stays, Falls, Twice}

-- "ranges are kept, .. each active row's rule exists and has that role as target"
unfoldable pub fit_clauses : Policy → Row → List Bool
fit_clauses p r =
    ltb r.user users
    ∷ ltb r.role roles
    ∷ ltb r.rule (length p.rules)
    ∷ eqb (rule_numbered p r.rule).target r.role
    ∷ []

abbrev pub row_fits : Policy → Row → Bool
row_fits p r = every (fit_clauses p r)

-- the verdict on a row is that it stays
abbrev pub said_to_stay : Option Verdict → Bool
said_to_stay None = false
said_to_stay (Some Stays) = true
said_to_stay (Some Falls) = false
said_to_stay (Some Twice) = false

-- at a place stands a count of rows, and past so many of the rows behind it all numbers are zero
unfoldable pub counted : List ℕ → ℕ → ℕ → ℕ → Bool
counted s at most width = leb (number s at) most && all is_zero (drop (number s at * width) (take (most * width) (drop (at + 1) s)))

-- a state of its length: the facts and both tables are formed
abbrev pub parts_formed : List ℕ → Bool
parts_formed s = (all is_bit (fact_numbers s) && counted s row_count_at most_rows row_width) && counted s certificate_count_at most_certificates certificate_width

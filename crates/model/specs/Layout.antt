-- Where the numbers stand. No other definition of the model knows a place. "Numbers and tables", the rows of the tables and of the state.
use Rattle.std.specs.Prelude.{ℕ, ◌+◌, ◌*◌, ◌/◌, List, [], ◌∷◌, ◌++◌, map, length, get_or, take, drop}
use Rattle.model.specs.Lists.{rows_of, joined, filled_to}
use Rattle.model.specs.Limits.{facts, rule_width, kind_width, right_width, most_rows, row_width, most_certificates, certificate_width}
use Rattle.model.specs.Values.{Tables, Policy, State}
use Rattle.model.specs.declared.Rule.{Rule}
use Rattle.model.specs.declared.Kind.{Kind}
use Rattle.model.specs.declared.Right.{Right}
use Rattle.model.specs.declared.Row.{Row}
use Rattle.model.specs.declared.Certificate.{Certificate}

-- what stands at a place, 0 past the end
abbrev pub number : List ℕ → ℕ → ℕ
number numbers place = get_or numbers place 0

-- "Rules .. rows of 11: target role, n, m, then eight conditions"
abbrev pub rule_from : List ℕ → Rule
rule_from row = record { target = number row 0; n = number row 1; m = number row 2; conditions = drop 3 row }

-- "Kinds .. rows of 7: appointer role, mode, s, then four prerequisite roles"
abbrev pub kind_from : List ℕ → Kind
kind_from row = record { appointer = number row 0; mode = number row 1; s = number row 2; prerequisites = drop 3 row }

-- "Rights .. rows of 2: role, privilege"
abbrev pub right_from : List ℕ → Right
right_from row = record { role = number row 0; privilege = number row 1 }

-- as many whole rows as the table has
abbrev pub whole_rows : ℕ → List ℕ → List (List ℕ)
whole_rows width table = rows_of width (length table / width) table

unfoldable pub policy_of : Tables → Policy
policy_of t =
    record {
      rules = map rule_from (whole_rows rule_width t.rules);
      kinds = map kind_from (whole_rows kind_width t.kinds);
      rights = map right_from (whole_rows right_width t.rights);
    }

-- "64 facts ..; a count up to 256 and 256 active rows ..; a count up to 256 and 256 certificate rows"
abbrev pub row_count_at : ℕ
row_count_at = facts

abbrev pub rows_at : ℕ
rows_at = row_count_at + 1

abbrev pub certificate_count_at : ℕ
certificate_count_at = rows_at + most_rows * row_width

abbrev pub certificates_at : ℕ
certificates_at = certificate_count_at + 1

abbrev pub row_count : List ℕ → ℕ
row_count s = number s row_count_at

abbrev pub certificate_count : List ℕ → ℕ
certificate_count s = number s certificate_count_at

abbrev pub fact_numbers : List ℕ → List ℕ
fact_numbers s = take facts s

abbrev pub row_numbers : List ℕ → List ℕ
row_numbers s = take (most_rows * row_width) (drop rows_at s)

abbrev pub certificate_numbers : List ℕ → List ℕ
certificate_numbers s = take (most_certificates * certificate_width) (drop certificates_at s)

-- "active rows (user, role, rule)"
abbrev pub row_from : List ℕ → Row
row_from row = record { user = number row 0; role = number row 1; rule = number row 2 }

-- "certificate rows (appointee, kind, appointer)"
abbrev pub certificate_from : List ℕ → Certificate
certificate_from row = record { appointee = number row 0; kind = number row 1; appointer = number row 2 }

unfoldable pub decode : List ℕ → State
decode s =
    record {
      facts = fact_numbers s;
      rows = map row_from (rows_of row_width (row_count s) (row_numbers s));
      certificates = map certificate_from (rows_of certificate_width (certificate_count s) (certificate_numbers s));
    }

abbrev pub from_row : Row → List ℕ
from_row r = r.user ∷ r.role ∷ r.rule ∷ []

abbrev pub from_certificate : Certificate → List ℕ
from_certificate c = c.appointee ∷ c.kind ∷ c.appointer ∷ []

-- "Rows stand in order of arrival, those past the count are zero"
unfoldable pub encode : State → List ℕ
encode t =
    t.facts
    ++ (length t.rows ∷ filled_to (most_rows * row_width) (joined from_row t.rows))
    ++ (length t.certificates ∷ filled_to (most_certificates * certificate_width) (joined from_certificate t.certificates))

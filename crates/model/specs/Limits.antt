-- The limits and the codes, each by its name. "Numbers and tables" and "Codes and their order".
use Rattle.std.specs.Prelude.{ℕ}

-- "Users 0 to 4,095; roles 0 to 255; privileges 0 to 1,023; environment facts 0 to 63."
abbrev pub users : ℕ
users = 4096

abbrev pub roles : ℕ
roles = 256

abbrev pub privileges : ℕ
privileges = 1024

abbrev pub facts : ℕ
facts = 64

-- "Rules, at most 512 rows of 11", with "eight conditions"
abbrev pub most_rules : ℕ
most_rules = 512

abbrev pub rule_width : ℕ
rule_width = 11

abbrev pub most_conditions : ℕ
most_conditions = 8

-- "Kinds, at most 128 rows of 7", with "four prerequisite roles" and the modes 0, 1 and 2
abbrev pub most_kinds : ℕ
most_kinds = 128

abbrev pub kind_width : ℕ
kind_width = 7

abbrev pub most_prerequisites : ℕ
most_prerequisites = 4

abbrev pub modes : ℕ
modes = 3

-- "Rights, at most 2,048 rows of 2"
abbrev pub most_rights : ℕ
most_rights = 2048

abbrev pub right_width : ℕ
right_width = 2

-- "a count up to 256 and 256 active rows (user, role, rule)"
abbrev pub most_rows : ℕ
most_rows = 256

abbrev pub row_width : ℕ
row_width = 3

-- "a count up to 256 and 256 certificate rows (appointee, kind, appointer)"
abbrev pub most_certificates : ℕ
most_certificates = 256

abbrev pub certificate_width : ℕ
certificate_width = 3

-- "The state is exactly 1,602 numbers"
abbrev pub state_size : ℕ
state_size = 1602

-- "Chain (user, role, a lent list of 256 numbers)"
abbrev pub list_size : ℕ
list_size = 256

-- "Code 0 is acceptance." The others are in the order of the table
abbrev pub accepted : ℕ
accepted = 0

abbrev pub malformed_policy : ℕ
malformed_policy = 1

abbrev pub unsound_state : ℕ
unsound_state = 2

abbrev pub out_of_range : ℕ
out_of_range = 3

abbrev pub already_active : ℕ
already_active = 4

abbrev pub no_rule_satisfied : ℕ
no_rule_satisfied = 5

abbrev pub table_full : ℕ
table_full = 6

abbrev pub not_in_appointer_role : ℕ
not_in_appointer_role = 7

abbrev pub stands_already : ℕ
stands_already = 8

abbrev pub no_such_certificate : ℕ
no_such_certificate = 9

abbrev pub may_not_revoke : ℕ
may_not_revoke = 10

abbrev pub written_twice : ℕ
written_twice = 11

abbrev pub not_active : ℕ
not_active = 12

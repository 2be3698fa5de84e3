-- The tables by places, as code reads them: entry i of a table, and its first entries. Where the tables of a state stand is said by
-- the model's layout; here a table is a list of numbers.
use Rattle.std.specs.Prelude.{ℕ, ◌*◌, ◌≤◌, ◌≡◌, List, [], map, length, take, drop}
use Rattle.model.specs.Lists.{rows_of}
use Rattle.model.specs.Limits.{rule_width, kind_width, right_width, row_width, certificate_width, most_rows, most_certificates, state_size}
use Rattle.model.specs.Values.{Tables, Policy, World, world_of}
use Rattle.model.specs.Layout.{rule_from, kind_from, right_from, row_from, certificate_from, row_numbers, certificate_numbers, row_count, certificate_count, policy_of, decode}
use Rattle.model.specs.declared.Rule.{Rule}
use Rattle.model.specs.declared.Kind.{Kind}
use Rattle.model.specs.declared.Right.{Right}
use Rattle.model.specs.declared.Row.{Row}
use Rattle.model.specs.declared.Certificate.{Certificate}

module _ {A : Type 0} where
  -- what stands at entry i
  abbrev pub entry : (List ℕ → A) → ℕ → List ℕ → ℕ → A
  entry from width table i = from (take width (drop (i * width) table))

  -- the first entries
  abbrev pub entries : (List ℕ → A) → ℕ → List ℕ → ℕ → List A
  entries from width table count = map from (rows_of width count table)

unfoldable pub rule_at : List ℕ → ℕ → Rule
rule_at rules i = entry rule_from rule_width rules i

unfoldable pub kind_at : List ℕ → ℕ → Kind
kind_at kinds k = entry kind_from kind_width kinds k

unfoldable pub right_at : List ℕ → ℕ → Right
right_at rights i = entry right_from right_width rights i

unfoldable pub row_at : List ℕ → ℕ → Row
row_at s i = entry row_from row_width (row_numbers s) i

unfoldable pub first_rows : List ℕ → ℕ → List Row
first_rows s k = entries row_from row_width (row_numbers s) k

unfoldable pub certificate_at : List ℕ → ℕ → Certificate
certificate_at s i = entry certificate_from certificate_width (certificate_numbers s) i

unfoldable pub first_certificates : List ℕ → ℕ → List Certificate
first_certificates s k = entries certificate_from certificate_width (certificate_numbers s) k

-- the tables as a caller lends them
abbrev pub lent : List ℕ → List ℕ → List ℕ → Tables
lent rules kinds rights = record { rules = rules; kinds = kinds; rights = rights }

-- the same without rights: whoever judges conditions reads none
abbrev pub without_rights : List ℕ → List ℕ → Tables
without_rights rules kinds = lent rules kinds []

-- the policy that the lent rules alone make, and that of the lent kinds alone: a rule and a certificate name kinds and nothing else of it
abbrev pub rules_only : List ℕ → Policy
rules_only rules = policy_of (without_rights rules [])

abbrev pub kinds_only : List ℕ → Policy
kinds_only kinds = policy_of (without_rights [] kinds)

-- what conditions are judged against
abbrev pub world_at : List ℕ → List ℕ → List ℕ → World
world_at rules kinds s = world_of (policy_of (without_rights rules kinds)) (decode s)

-- the state has its length, and its counts are within the tables
pub record Sized (s : List ℕ) : Type 0 where
  pub size : length s ≡ state_size
  pub rows : row_count s ≤ most_rows
  pub certificates : certificate_count s ≤ most_certificates

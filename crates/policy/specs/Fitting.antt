-- What is judged of a policy in parts.
use Rattle.std.specs.Prelude.{ℕ, ◌/◌, Bool, ◌&&◌, List, [], leb, length}
use Rattle.model.specs.Lists.{all}
use Rattle.model.specs.Limits.{rule_width, most_rules, kind_width, most_kinds, right_width, most_rights}
use Rattle.model.specs.Values.{Tables, Policy}
use Rattle.model.specs.Layout.{right_from, policy_of}
use Rattle.model.specs.Sound.{is_whole, rule_fits, kind_fits, right_fits}
use Rattle.table.specs.Entries.{lent, rules_only, kinds_only, entries}

-- the table has whole rows of the width, and at most so many
abbrev pub has_form : ℕ → ℕ → List ℕ → Bool
has_form width most table = is_whole width table && leb (length table / width) most

abbrev pub tables_formed : Tables → Bool
tables_formed t = (has_form rule_width most_rules t.rules && has_form kind_width most_kinds t.kinds) && has_form right_width most_rights t.rights

-- the policy that the lent rights alone make
abbrev pub rights_only : List ℕ → Policy
rights_only rights = policy_of (lent [] [] rights)

-- the first rights that the numbers make, so many, fit
unfoldable pub first_rights_fit : ℕ → List ℕ → Bool
first_rights_fit count numbers = all right_fits (entries right_from right_width numbers count)

-- the right that two numbers make fits
abbrev pub alone_fits : List ℕ → Bool
alone_fits numbers = right_fits (right_from numbers)

abbrev pub rows_fit : Tables → Bool
rows_fit t = (all (rule_fits (kinds_only t.kinds)) (rules_only t.rules).rules && all kind_fits (kinds_only t.kinds).kinds) && all right_fits (rights_only t.rights).rights

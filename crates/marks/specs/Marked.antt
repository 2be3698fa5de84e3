-- When a condition holds by one user's marks. Mark c below 256 says that the user is active in role c, mark 256 + k that a certificate of
-- kind k stands for the user: the numbers by which a rule names them.
use Rattle.std.specs.Prelude.{ℕ, ◌+◌, Bool, false, ◌&&◌, List, eqb, ltb, get_or}
use Rattle.model.specs.Lists.{all}
use Rattle.model.specs.Limits.{roles}
use Rattle.model.specs.Values.{World}
use Rattle.model.specs.Conditions.{Condition, role, kind, fact, malformed, meant, activating, membership, prerequisite_roles, kind_numbered, rule_numbered}
use Rattle.model.specs.declared.Rule.{Rule}
use Rattle.model.specs.declared.Row.{Row}

-- one for each condition that is a role or a kind
abbrev pub own_marks : ℕ
own_marks = 384

-- mark c of a user's own
abbrev pub has : List Bool → ℕ → Bool
has own c = get_or own c false

abbrev pub role_marked : (ℕ → Bool) → ℕ → Bool
role_marked marked q = ltb q roles && marked q

unfoldable pub holds_by : (ℕ → Bool) → World → Condition → Bool
holds_by marked w (role q) = role_marked marked q
holds_by marked w (kind k) = marked (256 + k) && all (role_marked marked) (prerequisite_roles (kind_numbered w.policy k))
holds_by marked w (fact f) = eqb (get_or w.facts f 0) 1
holds_by marked w malformed = false

abbrev pub all_hold_by : (ℕ → Bool) → World → List ℕ → Bool
all_hold_by marked w conditions = all (λ (c : ℕ). holds_by marked w (meant c)) conditions

unfoldable pub supported_by : (ℕ → Bool) → World → Row → Bool
supported_by marked w r = all_hold_by marked w (membership (rule_numbered w.policy r.rule))

unfoldable pub satisfied_by : (ℕ → Bool) → World → ℕ → Rule → Bool
satisfied_by marked w q r = eqb r.target q && all_hold_by marked w (activating r)

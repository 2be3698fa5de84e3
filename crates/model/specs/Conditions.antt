-- What a condition is, and when it holds for a user. "Condition: ..", "When a condition holds for a user", definitions 3 to 8.
use Rattle.std.specs.Prelude.{ℕ, ◌-◌, Bool, false, ◌&&◌, cond, List, [], ◌∷◌, eqb, ltb, get_or, take, replicate}
use Rattle.model.specs.Lists.{any, all, joined}
use Rattle.model.specs.Limits.{most_conditions, most_prerequisites}
use Rattle.model.specs.Values.{Policy, World}
use Rattle.model.specs.declared.Rule.{Rule}
use Rattle.model.specs.declared.Kind.{Kind}
use Rattle.model.specs.declared.Row.{Row}
use Rattle.model.specs.declared.Certificate.{Certificate}

pub data Condition : Type 0 where
  role : ℕ → Condition
  kind : ℕ → Condition
  fact : ℕ → Condition
  malformed : Condition

-- "0 to 255 a role; 256 to 383 certificate kind (number − 256) ..; 384 to 447 environment fact (number − 384); 448 and above
-- malformed."
unfoldable pub meant : ℕ → Condition
meant c = cond (ltb c 256) (role c) (cond (ltb c 384) (kind (c - 256)) (cond (ltb c 448) (fact (c - 384)) malformed))

-- the rule of a number, and the kind of a number; where the table has no such row, a row of zeros, which asks nothing
abbrev pub no_rule : Rule
no_rule = record { target = 0; n = 0; m = 0; conditions = replicate most_conditions 0 }

abbrev pub no_kind : Kind
no_kind = record { appointer = 0; mode = 0; s = 0; prerequisites = replicate most_prerequisites 0 }

abbrev pub rule_numbered : Policy → ℕ → Rule
rule_numbered p i = get_or p.rules i no_rule

abbrev pub kind_numbered : Policy → ℕ → Kind
kind_numbered p k = get_or p.kinds k no_kind

-- definition 4: the activating conditions are the n of the rule
abbrev pub activating : Rule → List ℕ
activating r = take r.n r.conditions

-- definition 8: "The first m conditions are the membership rule"
abbrev pub membership : Rule → List ℕ
membership r = take r.m r.conditions

-- definition 3: the kind's prerequisite roles, s of them
abbrev pub prerequisite_roles : Kind → List ℕ
prerequisite_roles k = take k.s k.prerequisites

-- the row says that the user is active in the role
abbrev pub is_row : ℕ → ℕ → Row → Bool
is_row u q r = eqb r.user u && eqb r.role q

-- the user is active in the role, in these rows
unfoldable pub active : List Row → ℕ → ℕ → Bool
active rows u q = any (is_row u q) rows

-- the certificate is one of the kind, and stands for the user
abbrev pub stands_for : ℕ → ℕ → Certificate → Bool
stands_for u k c = eqb c.appointee u && eqb c.kind k

-- "some certificate of that kind stands for the user"
unfoldable pub some_stands : List Certificate → ℕ → ℕ → Bool
some_stands certificates u k = any (stands_for u k) certificates

-- definition 6, as the outline states it: "a role, if the user is active in it; a kind, if some certificate of that kind stands for the
-- user and the user is active in all the kind's prerequisite roles; a fact, if it is 1."
unfoldable pub holds : World → List Row → ℕ → Condition → Bool
holds w rows u (role q) = active rows u q
holds w rows u (kind k) = some_stands w.certificates u k && all (active rows u) (prerequisite_roles (kind_numbered w.policy k))
holds w rows u (fact f) = eqb (get_or w.facts f 0) 1
holds w rows u malformed = false

-- all of the conditions hold for the user
abbrev pub all_hold : World → List Row → ℕ → List ℕ → Bool
all_hold w rows u conditions = all (λ (c : ℕ). holds w rows u (meant c)) conditions

-- definition 7: the rule is one for the role, and "I_u ⊨ x_i for all 1 ≤ i ≤ n"
unfoldable pub satisfied : World → List Row → ℕ → ℕ → Rule → Bool
satisfied w rows u q r = eqb r.target q && all_hold w rows u (activating r)

-- definition 9, turned round: the membership conditions of the rule under which the row was granted hold in these rows
unfoldable pub supported : World → List Row → Row → Bool
supported w rows r = all_hold w rows r.user (membership (rule_numbered w.policy r.rule))

-- the roles that a condition asks for: itself, or "the prerequisite roles of any appointment certificates"
unfoldable pub roles_asked : Policy → Condition → List ℕ
roles_asked p (role q) = q ∷ []
roles_asked p (kind k) = prerequisite_roles (kind_numbered p k)
roles_asked p (fact f) = []
roles_asked p malformed = []

-- the roles that the membership conditions of the row's own rule ask for, in the rule's order
unfoldable pub rests_on : Policy → Row → List ℕ
rests_on p r = joined (λ (c : ℕ). roles_asked p (meant c)) (membership (rule_numbered p r.rule))

-- When a policy is sound, and when a state is. "Numbers and tables", clause by clause.
use Rattle.std.specs.Prelude.{ℕ, ◌*◌, ◌%◌, Bool, true, false, not, ◌&&◌, List, [], ◌∷◌, eqb, ltb, leb, length, drop}
use Rattle.model.specs.Lists.{every, any, all, all_over_earlier, is_zero, is_bit}
use Rattle.model.specs.Limits.{users, roles, privileges, most_rules, rule_width, most_conditions, most_kinds, kind_width, most_prerequisites, modes, most_rights, right_width, most_rows, row_width, most_certificates, certificate_width, state_size}
use Rattle.model.specs.Values.{Tables, Policy, State, World, world_of}
use Rattle.model.specs.Layout.{policy_of, decode, row_count, certificate_count, fact_numbers, row_numbers, certificate_numbers}
use Rattle.model.specs.Conditions.{Condition, role, kind, fact, malformed, meant, activating, prerequisite_roles, rule_numbered, active, supported}
use Rattle.model.specs.declared.Rule.{Rule}
use Rattle.model.specs.declared.Kind.{Kind}
use Rattle.model.specs.declared.Right.{Right}
use Rattle.model.specs.declared.Row.{Row}
use Rattle.model.specs.declared.Certificate.{Certificate}

-- the length is "a whole number of rows"
abbrev pub is_whole : ℕ → List ℕ → Bool
is_whole width table = eqb (length table % width) 0

-- "certificate kind .., which must be a row of the kinds table"; "448 and above malformed"
unfoldable pub condition_fits : Policy → Condition → Bool
condition_fits p (role q) = true
condition_fits p (kind k) = ltb k (length p.kinds)
condition_fits p (fact f) = true
condition_fits p malformed = false

-- "target role, n, m, then eight conditions, those past n being 0. m ≤ n ≤ 8."
unfoldable pub rule_clauses : Policy → Rule → List Bool
rule_clauses p r =
    ltb r.target roles
    ∷ leb r.m r.n
    ∷ leb r.n most_conditions
    ∷ all (λ (c : ℕ). condition_fits p (meant c)) (activating r)
    ∷ all is_zero (drop r.n r.conditions)
    ∷ []

abbrev pub rule_fits : Policy → Rule → Bool
rule_fits p r = every (rule_clauses p r)

-- "appointer role, mode, s, then four prerequisite roles, those past s being 0. s ≤ 4. Mode 0 .., 1 .., 2 .."
unfoldable pub kind_clauses : Kind → List Bool
kind_clauses k =
    ltb k.appointer roles
    ∷ ltb k.mode modes
    ∷ leb k.s most_prerequisites
    ∷ all (λ (q : ℕ). ltb q roles) (prerequisite_roles k)
    ∷ all is_zero (drop k.s k.prerequisites)
    ∷ []

abbrev pub kind_fits : Kind → Bool
kind_fits k = every (kind_clauses k)

-- "Rights .. rows of 2: role, privilege."
unfoldable pub right_clauses : Right → List Bool
right_clauses r = ltb r.role roles ∷ ltb r.privilege privileges ∷ []

abbrev pub right_fits : Right → Bool
right_fits r = every (right_clauses r)

-- "A length that isn't a whole number of rows, too many rows, or a row not as above makes the policy malformed; any other is sound."
unfoldable pub policy_clauses : Tables → List Bool
policy_clauses t =
    is_whole rule_width t.rules
    ∷ is_whole kind_width t.kinds
    ∷ is_whole right_width t.rights
    ∷ leb (length (policy_of t).rules) most_rules
    ∷ leb (length (policy_of t).kinds) most_kinds
    ∷ leb (length (policy_of t).rights) most_rights
    ∷ all (rule_fits (policy_of t)) (policy_of t).rules
    ∷ all kind_fits (policy_of t).kinds
    ∷ all right_fits (policy_of t).rights
    ∷ []

abbrev pub sound_policy : Tables → Bool
sound_policy t = every (policy_clauses t)

-- "ranges are kept, no (user, role) .. stands twice, .. each active row's rule exists and has that role as target, and each of
-- its membership conditions holds, where "active" means active in an earlier row of the same user"
unfoldable pub row_clauses : World → List Row → Row → List Bool
row_clauses w earlier r =
    ltb r.user users
    ∷ ltb r.role roles
    ∷ not (active earlier r.user r.role)
    ∷ ltb r.rule (length w.policy.rules)
    ∷ eqb (rule_numbered w.policy r.rule).target r.role
    ∷ supported w earlier r
    ∷ []

abbrev pub row_sound : World → List Row → Row → Bool
row_sound w earlier r = every (row_clauses w earlier r)

-- a certificate is its appointee, kind and appointer
abbrev pub same_certificate : Certificate → Certificate → Bool
same_certificate a b = every (eqb a.appointee b.appointee ∷ eqb a.kind b.kind ∷ eqb a.appointer b.appointer ∷ [])

-- "ranges are kept, .. no certificate stands twice, each certificate's kind has a row"
unfoldable pub certificate_clauses : Policy → List Certificate → Certificate → List Bool
certificate_clauses p earlier c =
    ltb c.appointee users
    ∷ ltb c.kind (length p.kinds)
    ∷ ltb c.appointer users
    ∷ not (any (same_certificate c) earlier)
    ∷ []

abbrev pub certificate_sound : Policy → List Certificate → Certificate → Bool
certificate_sound p earlier c = every (certificate_clauses p earlier c)

-- "The state is exactly 1,602 numbers: 64 facts, each 0 or 1; a count up to 256 ..; a count up to 256 ..", "those past the count
-- are zero"
unfoldable pub form_clauses : List ℕ → List Bool
form_clauses s =
    eqb (length s) state_size
    ∷ all is_bit (fact_numbers s)
    ∷ leb (row_count s) most_rows
    ∷ leb (certificate_count s) most_certificates
    ∷ all is_zero (drop (row_count s * row_width) (row_numbers s))
    ∷ all is_zero (drop (certificate_count s * certificate_width) (certificate_numbers s))
    ∷ []

abbrev pub well_formed : List ℕ → Bool
well_formed s = every (form_clauses s)

-- the certificates and the active rows, each judged over those before it
unfoldable pub sound_values : Policy → State → Bool
sound_values p t = all_over_earlier (certificate_sound p) [] t.certificates && all_over_earlier (row_sound (world_of p t)) [] t.rows

-- "A state is sound if these hold, .."
unfoldable pub sound : Policy → List ℕ → Bool
sound p s = well_formed s && sound_values p (decode s)

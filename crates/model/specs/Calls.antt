-- The ten calls. "The calls" and "Codes and their order": for each call its refusals in their order, and what it does.
use Rattle.std.specs.Prelude.{ℕ, suc, ◌-◌, Bool, false, not, ◌&&◌, cond, List, [], ◌∷◌, ◌++◌, eqb, ltb, leb, length, replicate}
use Rattle.model.specs.Lists.{every, any, without, first_place, is_bit, filled_to}
use Rattle.model.specs.Limits.{users, roles, privileges, facts, most_rows, most_certificates, state_size, list_size, unsound_state, out_of_range, already_active, no_rule_satisfied, table_full, not_in_appointer_role, stands_already, no_such_certificate, may_not_revoke, written_twice, not_active}
use Rattle.model.specs.Values.{Tables, Policy, State, world_of, with_rows, with_certificates, with_fact}
use Rattle.model.specs.Conditions.{kind_numbered, active, satisfied, supported}
use Rattle.model.specs.Left.{left}
use Rattle.model.specs.Sound.{same_certificate}
use Rattle.model.specs.Effective.{direct, effectively}
use Rattle.model.specs.Chain.{written, some_twice}
use Rattle.model.specs.Outcome.{Outcome, Refusal, ◌⇒◌, first_code, Effect, Course, judged_first, decided, Given, given}
use Rattle.model.specs.declared.Kind.{Kind}
use Rattle.model.specs.declared.Row.{Row}
use Rattle.model.specs.declared.Certificate.{Certificate}

pub data Call : Type 0 where
  fresh : Call
  activate : (user role : ℕ) → Call
  appoint : (appointer appointee kind : ℕ) → Call
  revoke : (caller appointee kind appointer : ℕ) → Call
  withdraw : (appointee kind appointer : ℕ) → Call
  environment : (fact value : ℕ) → Call
  logout : (user : ℕ) → Call
  invoke : (user privilege : ℕ) → Call
  effective : (user role privilege : ℕ) → Call
  chain : (user role : ℕ) → Call

-- 3: "an argument out of range, a kind without a row, a chain list not of 256"
abbrev pub out_of_range_unless : List Bool → Refusal
out_of_range_unless in_range = not (every in_range) ⇒ out_of_range

abbrev pub is_user : ℕ → Bool
is_user u = ltb u users

abbrev pub is_role : ℕ → Bool
is_role q = ltb q roles

abbrev pub is_privilege : ℕ → Bool
is_privilege x = ltb x privileges

abbrev pub has_row : Policy → ℕ → Bool
has_row p k = ltb k (length p.kinds)

-- "After revoke, withdraw and environment, unsupported rows fall: the rows left are the largest set .." `left` computes it; that on
-- a sound state it is `Largest` is a law. "The second number is the rows lost; for logout too."
unfoldable pub settled : Given → State → Effect
settled g t =
    let rest = left (supported (world_of g.policy t)) t.rows in
    record { second = length g.state.rows - length rest; state = with_rows t rest; list = g.list }

-- a call that answers and changes nothing
abbrev pub told : Given → Bool → Effect
told g so = record { second = cond so 1 0; state = g.state; list = g.list }

-- "Activate (user, role): takes the lowest-numbered rule for the role whose conditions all hold, appends the row, second = the
-- rule."
abbrev pub some_rule_satisfied : Policy → State → ℕ → ℕ → Bool
some_rule_satisfied p t u q = any (satisfied (world_of p t) t.rows u q) p.rules

abbrev pub lowest_rule : Policy → State → ℕ → ℕ → ℕ
lowest_rule p t u q = first_place (satisfied (world_of p t) t.rows u q) p.rules

unfoldable pub activate_on : Given → ℕ → ℕ → Course
activate_on g u q =
    record {
      refusals =
          out_of_range_unless (is_user u ∷ is_role q ∷ [])
          ∷ (active g.state.rows u q ⇒ already_active)
          ∷ (not (some_rule_satisfied g.policy g.state u q) ⇒ no_rule_satisfied)
          ∷ (leb most_rows (length g.state.rows) ⇒ table_full)
          ∷ [];
      effect =
          let rule = lowest_rule g.policy g.state u q in
          record { second = rule; state = with_rows g.state (g.state.rows ++ (record { user = u; role = q; rule = rule } ∷ [])); list = g.list };
    }

abbrev pub stands : State → Certificate → Bool
stands t c = any (same_certificate c) t.certificates

-- "a removed row closes its gap"
abbrev pub without_certificate : State → Certificate → State
without_certificate t c = with_certificates t (without (same_certificate c) t.certificates)

-- "Appoint (appointer, appointee, kind): the appointer must be active in the kind's appointer role. Second 0. Appointing oneself
-- is allowed."
unfoldable pub appoint_on : Given → Certificate → Course
appoint_on g c =
    record {
      refusals =
          out_of_range_unless (is_user c.appointer ∷ is_user c.appointee ∷ has_row g.policy c.kind ∷ [])
          ∷ (not (active g.state.rows c.appointer (kind_numbered g.policy c.kind).appointer) ⇒ not_in_appointer_role)
          ∷ (stands g.state c ⇒ stands_already)
          ∷ (leb most_certificates (length g.state.certificates) ⇒ table_full)
          ∷ [];
      effect = record { second = 0; state = with_certificates g.state (g.state.certificates ++ (c ∷ [])); list = g.list };
    }

-- "mode 0 wants caller = appointer, active or not; mode 1 wants the caller active in the appointer role; mode 2 always refuses."
abbrev pub may_revoke : List Row → Kind → ℕ → ℕ → Bool
may_revoke rows k caller appointer = cond (eqb k.mode 0) (eqb caller appointer) (cond (eqb k.mode 1) (active rows caller k.appointer) false)

-- "Revoke (caller, appointee, kind, appointer)"
unfoldable pub revoke_on : Given → ℕ → Certificate → Course
revoke_on g caller c =
    record {
      refusals =
          out_of_range_unless (is_user caller ∷ is_user c.appointee ∷ has_row g.policy c.kind ∷ is_user c.appointer ∷ [])
          ∷ (not (stands g.state c) ⇒ no_such_certificate)
          ∷ (not (may_revoke g.state.rows (kind_numbered g.policy c.kind) caller c.appointer) ⇒ may_not_revoke)
          ∷ [];
      effect = settled g (without_certificate g.state c);
    }

-- "Withdraw (appointee, kind, appointer): by the system, whichever the mode."
unfoldable pub withdraw_on : Given → Certificate → Course
withdraw_on g c =
    record {
      refusals =
          out_of_range_unless (is_user c.appointee ∷ has_row g.policy c.kind ∷ is_user c.appointer ∷ [])
          ∷ (not (stands g.state c) ⇒ no_such_certificate)
          ∷ [];
      effect = settled g (without_certificate g.state c);
    }

-- "Environment (fact, value 0 or 1)."
unfoldable pub environment_on : Given → ℕ → ℕ → Course
environment_on g f value =
    record {
      refusals = out_of_range_unless (ltb f facts ∷ is_bit value ∷ []) ∷ [];
      effect = settled g (with_fact g.state f value);
    }

-- "Logout (user): drops all the user's rows. Certificates the user issued or holds stay. Without rows it is accepted with 0."
abbrev pub of_user : ℕ → Row → Bool
of_user u r = eqb r.user u

unfoldable pub logout_on : Given → ℕ → Course
logout_on g u =
    record {
      refusals = out_of_range_unless (is_user u ∷ []) ∷ [];
      effect =
          let rest = without (of_user u) g.state.rows in
          record { second = length g.state.rows - length rest; state = with_rows g.state rest; list = g.list };
    }

-- "Invoke (user, privilege): second 1 if some active role of the user has the right, else 0."
unfoldable pub allowed : Policy → List Row → ℕ → ℕ → Bool
allowed p rows u x = any (λ (r : Row). eqb r.user u && direct p r.role x) rows

unfoldable pub invoke_on : Given → ℕ → ℕ → Course
invoke_on g u x =
    record {
      refusals = out_of_range_unless (is_user u ∷ is_privilege x ∷ []) ∷ [];
      effect = told g (allowed g.policy g.state.rows u x);
    }

-- "Effective (user, role, privilege): definition 10. Second 1 if in the role's effective set, else 0."
unfoldable pub effective_on : Given → ℕ → ℕ → ℕ → Course
effective_on g u q x =
    record {
      refusals = out_of_range_unless (is_user u ∷ is_role q ∷ is_privilege x ∷ []) ∷ (not (active g.state.rows u q) ⇒ not_active) ∷ [];
      effect = told g (effectively g.policy g.state.rows u q x);
    }

-- "Chain (user, role, a lent list of 256 numbers): .. The rest of the list is zero. The second number, from 1 to 256, is the
-- number of roles written." 257 roles below 256 cannot all differ, so a walk that is cut off here has a role twice
unfoldable pub chain_on : Given → ℕ → ℕ → Course
chain_on g u q =
    let walk = written g.policy g.state.rows u (suc roles) q in
    record {
      refusals =
          out_of_range_unless (is_user u ∷ is_role q ∷ eqb (length g.list) list_size ∷ [])
          ∷ (not (active g.state.rows u q) ⇒ not_active)
          ∷ (some_twice walk ⇒ written_twice)
          ∷ [];
      effect = record { second = length walk; state = g.state; list = filled_to list_size walk };
    }

-- "Fresh: writes all zeros; second 0. Refuses 2 only for a wrong length."
abbrev pub nothing : State
nothing = record { facts = replicate facts 0; rows = []; certificates = [] }

unfoldable pub fresh_on : List ℕ → List ℕ → Course
fresh_on s list =
    record {
      refusals = (not (eqb (length s) state_size) ⇒ unsound_state) ∷ [];
      effect = record { second = 0; state = nothing; list = list };
    }

-- each call's course: fresh judges nothing but the length, and every other call is judged first
unfoldable pub course_of : Tables → List ℕ → List ℕ → Call → Course
course_of t s list fresh = fresh_on s list
course_of t s list (activate u q) = judged_first t s (activate_on (given t s list) u q)
course_of t s list (appoint appointer appointee k) = judged_first t s (appoint_on (given t s list) (record { appointee = appointee; kind = k; appointer = appointer }))
course_of t s list (revoke caller appointee k appointer) = judged_first t s (revoke_on (given t s list) caller (record { appointee = appointee; kind = k; appointer = appointer }))
course_of t s list (withdraw appointee k appointer) = judged_first t s (withdraw_on (given t s list) (record { appointee = appointee; kind = k; appointer = appointer }))
course_of t s list (environment f value) = judged_first t s (environment_on (given t s list) f value)
course_of t s list (logout u) = judged_first t s (logout_on (given t s list) u)
course_of t s list (invoke u x) = judged_first t s (invoke_on (given t s list) u x)
course_of t s list (effective u q x) = judged_first t s (effective_on (given t s list) u q x)
course_of t s list (chain u q) = judged_first t s (chain_on (given t s list) u q)

-- what a call comes to, for any tables, any state, any list and any numbers
unfoldable pub answer : Tables → List ℕ → List ℕ → Call → Outcome
answer t s list c = let course = course_of t s list c in decided (first_code course.refusals) s list course.effect

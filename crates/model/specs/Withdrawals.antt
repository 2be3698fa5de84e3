-- Lists of withdrawals (demand 3): run one after the other, and taken away all at once. A withdrawal sets a fact false, withdraws a
-- certificate by the system, or logs a user out.
use Rattle.std.specs.Prelude.{ℕ, suc, ◌+◌, Bool, false, cond, List, [], ◌∷◌, eqb}
use Rattle.model.specs.Lists.{any, without}
use Rattle.model.specs.Values.{Tables, Policy, State, world_of, with_rows}
use Rattle.model.specs.Conditions.{supported}
use Rattle.model.specs.Left.{left}
use Rattle.model.specs.Sound.{same_certificate}
use Rattle.model.specs.Calls.{Call, withdraw, environment, logout, of_user, answer}
use Rattle.model.specs.declared.Row.{Row}
use Rattle.model.specs.declared.Certificate.{Certificate}

pub data Withdrawal : Type 0 where
  fact_false : ℕ → Withdrawal
  certificate_gone : Certificate → Withdrawal
  logged_out : ℕ → Withdrawal

-- the call that makes the withdrawal
abbrev pub call_of : Withdrawal → Call
call_of (fact_false f) = environment f 0
call_of (certificate_gone c) = withdraw c.appointee c.kind c.appointer
call_of (logged_out u) = logout u

-- the state in which a list ends, and the total of roles reported lost
pub record Ended : Type 0 where
  pub state : List ℕ
  pub lost : ℕ

-- one after the other; what is refused in its turn changes nothing and so is passed over
abbrev pub run : Tables → List ℕ → List Withdrawal → Ended
run t s [] = record { state = s; lost = 0 }
run t s (w ∷ ws) =
    let o = answer t s [] (call_of w) in
    let rest = run t o.state ws in
    record { state = rest.state; lost = o.second + rest.lost }

-- what a withdrawal names
abbrev pub names_fact : ℕ → Withdrawal → Bool
names_fact f (fact_false g) = eqb f g
names_fact f (certificate_gone c) = false
names_fact f (logged_out u) = false

abbrev pub names_certificate : Certificate → Withdrawal → Bool
names_certificate c (fact_false f) = false
names_certificate c (certificate_gone d) = same_certificate d c
names_certificate c (logged_out u) = false

abbrev pub names_user_of : Row → Withdrawal → Bool
names_user_of r (fact_false f) = false
names_user_of r (certificate_gone c) = false
names_user_of r (logged_out u) = of_user u r

-- the facts from number `first` on, those that the list names set false
abbrev pub facts_left : List Withdrawal → ℕ → List ℕ → List ℕ
facts_left ws first [] = []
facts_left ws first (value ∷ values) = cond (any (names_fact first) ws) 0 value ∷ facts_left ws (suc first) values

-- everything that the list names is gone, whatever it supported
unfoldable pub taken_away : List Withdrawal → State → State
taken_away ws t =
    record {
      facts = facts_left ws 0 t.facts;
      rows = without (λ (r : Row). any (names_user_of r) ws) t.rows;
      certificates = without (λ (c : Certificate). any (names_certificate c) ws) t.certificates;
    }

-- and then the rows that have lost their support fall
unfoldable pub all_at_once : Policy → State → List Withdrawal → State
all_at_once p t ws = let u = taken_away ws t in with_rows u (left (supported (world_of p u)) u.rows)

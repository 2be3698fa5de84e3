-- The ten cases that "At the edges" marks P, as one table under one statement, which holds by computation; and five more cases, of what
-- the outline allows or asks in a single sentence, as a second table. The wanted answers are worked out from the outline.
use Prim.Native.Nat.{ℕ, zero, suc, ◌*◌, ◌-◌}
use mathlib.Core.Path.{◌≡◌, refl}
use mathlib.Core.Bool.{Bool, true, ◌&&◌}
use mathlib.Core.List.{List, [], ◌∷◌, ◌++◌}
use lib.Dec.{eqb}
use lib.ListN.{length, replicate}
use Rattle.model.specs.Lists.{all, filled_to}
use Rattle.model.specs.Values.{Tables}
use Rattle.model.specs.Layout.{policy_of, decode, encode}
use Rattle.model.specs.Conditions.{meant, active, some_stands, holds, satisfied, supported, roles_asked, rests_on}
use Rattle.model.specs.Left.{left}
use Rattle.model.specs.Sound.{condition_fits, rule_clauses, kind_clauses, right_clauses, policy_clauses, row_clauses, certificate_clauses, form_clauses, sound_values, sound}
use Rattle.model.specs.Effective.{direct, effectively}
use Rattle.model.specs.Outcome.{judged_first, decided}
use Rattle.model.specs.Calls.{Call, fresh, activate, appoint, revoke, withdraw, environment, logout, invoke, settled, activate_on, appoint_on, revoke_on, withdraw_on, environment_on, logout_on, allowed, invoke_on, effective_on, chain_on, fresh_on, course_of, answer}

-- a call, the code and the second number that are wanted of it
record Step : Type 0 where
  call : Call
  code : ℕ
  second : ℕ

infix 10 ◌gives◌and◌
abbrev ◌gives◌and◌ : Call → ℕ → ℕ → Step
call gives code and second = record { call = call; code = code; second = second }

-- tables and a state, and calls made one after the other
record Session : Type 0 where
  tables : Tables
  state : List ℕ
  steps : List Step

abbrev goes : Tables → List ℕ → List Step → Bool
goes t s [] = true
goes t s (x ∷ xs) =
    let o = answer t s [] x.call in
    let later = goes t o.state xs in
    eqb o.code x.code && (eqb o.second x.second && later)

abbrev goes_right : Session → Bool
goes_right x = goes x.tables x.state x.steps

-- rows as the program's records give them: n is the number of conditions, s the number of prerequisites
abbrev rule : ℕ → ℕ → List ℕ → List ℕ
rule target m conditions = target ∷ length conditions ∷ m ∷ filled_to 8 conditions

abbrev kind : ℕ → ℕ → List ℕ → List ℕ
kind appointer mode prerequisites = appointer ∷ mode ∷ length prerequisites ∷ filled_to 4 prerequisites

abbrev zeros : List ℕ
zeros = replicate 1602 0

-- users 0 to n - 1 are active in role 1 under rule 0, and nothing else is so
abbrev seated : ℕ → List ℕ → List ℕ
seated zero later = later
seated (suc u) later = seated u (u ∷ 1 ∷ 0 ∷ later)

abbrev crowd : ℕ → List ℕ
crowd n = replicate 64 0 ++ (n ∷ seated n (replicate (1602 - 65 - 3 * n) 0))

-- "the session above, its 13 answers as one entry"
worked : List Session
worked =
    record {
      tables = record { rules = rule 1 0 [] ++ rule 2 2 (1 ∷ 256 ∷ []) ++ rule 3 1 (2 ∷ 384 ∷ []) ++ rule 4 0 []; kinds = kind 4 0 []; rights = 3 ∷ 7 ∷ [] };
      state = zeros;
      steps =
          (activate 10 4 gives 0 and 3)
          ∷ (activate 20 1 gives 0 and 0)
          ∷ (activate 20 2 gives 5 and 0)
          ∷ (appoint 10 20 0 gives 0 and 0)
          ∷ (activate 20 2 gives 0 and 1)
          ∷ (activate 20 3 gives 5 and 0)
          ∷ (environment 0 1 gives 0 and 0)
          ∷ (activate 20 3 gives 0 and 2)
          ∷ (environment 0 0 gives 0 and 0)
          ∷ (invoke 20 7 gives 0 and 1)
          ∷ (revoke 10 20 0 10 gives 0 and 2)
          ∷ (invoke 20 7 gives 0 and 0)
          ∷ (logout 20 gives 0 and 1)
          ∷ [];
    }
    ∷ []

-- one role that asks nothing
abbrev open_house : Tables
open_house = record { rules = rule 1 0 []; kinds = []; rights = [] }

-- "User 4,095 accepted, 4,096 code 3."
last_user : List Session
last_user = record { tables = open_house; state = zeros; steps = (activate 4095 1 gives 0 and 0) ∷ (activate 4096 1 gives 3 and 0) ∷ [] } ∷ []

-- "m = 0: the role outlives all its conditions until logout." Role 3 asks for role 2, a certificate and fact 1, and keeps none of
-- them; role 2 rests on fact 0
outlives : List Session
outlives =
    record {
      tables = record { rules = rule 1 0 [] ++ rule 2 1 (384 ∷ []) ++ rule 3 0 (2 ∷ 256 ∷ 385 ∷ []); kinds = kind 1 0 []; rights = 3 ∷ 9 ∷ [] };
      state = zeros;
      steps =
          (environment 0 1 gives 0 and 0)
          ∷ (environment 1 1 gives 0 and 0)
          ∷ (activate 5 1 gives 0 and 0)
          ∷ (appoint 5 8 0 gives 0 and 0)
          ∷ (activate 8 2 gives 0 and 1)
          ∷ (activate 8 3 gives 0 and 2)
          ∷ (environment 0 0 gives 0 and 1)
          ∷ (environment 1 0 gives 0 and 0)
          ∷ (withdraw 8 0 5 gives 0 and 0)
          ∷ (invoke 8 9 gives 0 and 1)
          ∷ (logout 8 gives 0 and 1)
          ∷ (invoke 8 9 gives 0 and 0)
          ∷ [];
    }
    ∷ []

-- "State of 1,601 or 1,603 numbers: 2."
wrong-length : List Session
wrong-length =
    record { tables = open_house; state = replicate 1601 0; steps = (activate 1 1 gives 2 and 0) ∷ (fresh gives 2 and 0) ∷ [] }
    ∷ record { tables = open_house; state = replicate 1603 0; steps = (activate 1 1 gives 2 and 0) ∷ (fresh gives 2 and 0) ∷ [] }
    ∷ []

-- "The 256th active row enters, the 257th meets 6."
last_row : List Session
last_row = record { tables = open_house; state = crowd 255; steps = (activate 300 1 gives 0 and 0) ∷ (activate 301 1 gives 6 and 0) ∷ [] } ∷ []

-- "No satisfied rule and a full table: 5."
full_and_unsatisfied : List Session
full_and_unsatisfied =
    record { tables = record { rules = rule 1 0 [] ++ rule 2 0 (384 ∷ []); kinds = []; rights = [] }; state = crowd 256; steps = (activate 300 2 gives 5 and 0) ∷ (activate 300 1 gives 6 and 0) ∷ [] }
    ∷ []

-- "Certificates of one kind from two appointers, one withdrawn: nothing falls."
two_appointers : List Session
two_appointers =
    record {
      tables = record { rules = rule 1 0 [] ++ rule 2 1 (256 ∷ []); kinds = kind 1 0 []; rights = [] };
      state = zeros;
      steps =
          (activate 10 1 gives 0 and 0)
          ∷ (activate 11 1 gives 0 and 0)
          ∷ (appoint 10 20 0 gives 0 and 0)
          ∷ (appoint 11 20 0 gives 0 and 0)
          ∷ (activate 20 2 gives 0 and 1)
          ∷ (withdraw 20 0 10 gives 0 and 0)
          ∷ (withdraw 20 0 11 gives 0 and 1)
          ∷ [];
    }
    ∷ []

-- "Fact set false twice: the second loses 0."
false_twice : List Session
false_twice =
    record {
      tables = record { rules = rule 1 1 (384 ∷ []); kinds = []; rights = [] };
      state = zeros;
      steps = (environment 0 1 gives 0 and 0) ∷ (activate 6 1 gives 0 and 0) ∷ (environment 0 0 gives 0 and 1) ∷ (environment 0 0 gives 0 and 0) ∷ [];
    }
    ∷ []

-- "Rule whose only condition is its own target: 5." Nor is a state sound in which such a row stands, since it stands on itself
own-target : List Session
own-target =
    record { tables = circle; state = zeros; steps = (activate 0 1 gives 5 and 0) ∷ [] }
    ∷ record { tables = circle; state = crowd 1; steps = (activate 0 1 gives 2 and 0) ∷ [] }
    ∷ []
  where
    circle : Tables
    circle = record { rules = rule 1 1 (1 ∷ []); kinds = []; rights = [] }

-- "Malformed policy and unsound state: 1." A condition of 448, and a fact that is 2
malformed_and_unsound : List Session
malformed_and_unsound = record { tables = record { rules = rule 1 0 (448 ∷ []); kinds = []; rights = [] }; state = 2 ∷ replicate 1601 0; steps = (activate 6 1 gives 1 and 0) ∷ [] } ∷ []

table : List (List Session)
table =
    worked
    ∷ last_user
    ∷ outlives
    ∷ wrong-length
    ∷ last_row
    ∷ full_and_unsatisfied
    ∷ two_appointers
    ∷ false_twice
    ∷ own-target
    ∷ malformed_and_unsound
    ∷ []

cases : all (all goes_right) table ≡ true
unfolding table worked last_user outlives wrong-length last_row full_and_unsatisfied two_appointers false_twice own-target malformed_and_unsound policy_of decode encode meant active some_stands holds satisfied supported roles_asked rests_on left condition_fits rule_clauses kind_clauses right_clauses policy_clauses row_clauses certificate_clauses form_clauses sound_values sound direct effectively judged_first decided settled activate_on appoint_on revoke_on withdraw_on environment_on logout_on allowed invoke_on effective_on chain_on fresh_on course_of answer
cases = refl

-- "Repeats are allowed.": a condition, a prerequisite role and a right stand twice
repeats : List Session
repeats =
    record {
      tables = record { rules = rule 1 0 [] ++ rule 2 2 (1 ∷ 1 ∷ []); kinds = kind 1 0 (1 ∷ 1 ∷ []); rights = 2 ∷ 7 ∷ 2 ∷ 7 ∷ [] };
      state = zeros;
      steps = (activate 6 1 gives 0 and 0) ∷ (activate 6 2 gives 0 and 1) ∷ (invoke 6 7 gives 0 and 1) ∷ [];
    }
    ∷ []

-- "Appointing oneself is allowed."
oneself : List Session
oneself =
    record {
      tables = record { rules = rule 1 0 [] ++ rule 2 1 (256 ∷ []); kinds = kind 1 0 []; rights = [] };
      state = zeros;
      steps = (activate 6 1 gives 0 and 0) ∷ (appoint 6 6 0 gives 0 and 0) ∷ (activate 6 2 gives 0 and 1) ∷ [];
    }
    ∷ []

-- "Without rows it is accepted with 0.": before any row, beside another user's row, and a second time
without-rows : List Session
without-rows =
    record {
      tables = open_house;
      state = zeros;
      steps = (logout 6 gives 0 and 0) ∷ (activate 5 1 gives 0 and 0) ∷ (logout 6 gives 0 and 0) ∷ (logout 5 gives 0 and 1) ∷ (logout 5 gives 0 and 0) ∷ [];
    }
    ∷ []

-- "Kind 127 with 127 rows: 3." With 128 it is accepted. The kinds are rows of zeros: appointer role 0, and no prerequisites
last_kind : List Session
last_kind =
    record { tables = kinds_of 127; state = zeros; steps = (activate 6 0 gives 0 and 0) ∷ (appoint 6 7 127 gives 3 and 0) ∷ (appoint 6 7 126 gives 0 and 0) ∷ [] }
    ∷ record { tables = kinds_of 128; state = zeros; steps = (activate 6 0 gives 0 and 0) ∷ (appoint 6 7 127 gives 0 and 0) ∷ [] }
    ∷ []
  where
    kinds_of : ℕ → Tables
    kinds_of n = record { rules = rule 0 0 []; kinds = replicate (n * 7) 0; rights = [] }

-- "Prerequisite of a certificate falls: the role resting on it falls." Role 3 rests on a certificate that asks for role 2, and role 2
-- on fact 0
prerequisite_falls : List Session
prerequisite_falls =
    record {
      tables = record { rules = rule 1 0 [] ++ rule 2 1 (384 ∷ []) ++ rule 3 1 (256 ∷ []); kinds = kind 1 0 (2 ∷ []); rights = [] };
      state = zeros;
      steps =
          (environment 0 1 gives 0 and 0)
          ∷ (activate 5 1 gives 0 and 0)
          ∷ (appoint 5 8 0 gives 0 and 0)
          ∷ (activate 8 3 gives 5 and 0)
          ∷ (activate 8 2 gives 0 and 1)
          ∷ (activate 8 3 gives 0 and 2)
          ∷ (environment 0 0 gives 0 and 2)
          ∷ [];
    }
    ∷ []

further : List (List Session)
further = repeats ∷ oneself ∷ without-rows ∷ last_kind ∷ prerequisite_falls ∷ []

further_cases : all (all goes_right) further ≡ true
unfolding further repeats oneself without-rows last_kind prerequisite_falls policy_of decode encode meant active some_stands holds satisfied supported roles_asked rests_on left condition_fits rule_clauses kind_clauses right_clauses policy_clauses row_clauses certificate_clauses form_clauses sound_values sound direct effectively judged_first decided settled activate_on appoint_on revoke_on withdraw_on environment_on logout_on allowed invoke_on effective_on chain_on fresh_on course_of answer
further_cases = refl

-- The words in which the laws are stated.
use Rattle.std.specs.Prelude.{ℕ, ◌≤◌, ◌<◌, ◌≡◌, not, T, length}
use mathlib.Core.List.{List, [], ◌∷◌, ◌++◌, Memᴰ}
use Rattle.model.specs.Lists.{all, is_bit}
use Rattle.model.specs.Limits.{facts, most_rows, most_certificates, accepted}
use Rattle.model.specs.Values.{Tables, Policy, State, world_of}
use Rattle.model.specs.Layout.{policy_of, decode}
use Rattle.model.specs.Conditions.{rule_numbered, satisfied}
use Rattle.model.specs.Sound.{sound_policy, sound_values, sound}
use Rattle.model.specs.Effective.{direct}
use Rattle.model.specs.Outcome.{Refusal, Outcome}
use Rattle.model.specs.declared.Row.{Row}

-- policy and state are sound
pub record Sound (t : Tables) (s : List ℕ) : Type 0 where
  pub policy : T (sound_policy t)
  pub state : T (sound (policy_of t) s)

-- a value that has its place in 1,602 numbers
pub record Fits (t : State) : Type 0 where
  pub all_facts : length t.facts ≡ facts
  pub bits : T (all is_bit t.facts)
  pub room_for_rows : length t.rows ≤ most_rows
  pub room_for_certificates : length t.certificates ≤ most_certificates

-- such a value, sound under the policy
pub record SoundState (p : Policy) (t : State) : Type 0 where
  pub fits : Fits t
  pub values : T (sound_values p t)

-- the code of the first refusal that applies, where none before it does; 0 where none applies
pub data FirstApplies : List Refusal → ℕ → Type 0 where
  none : FirstApplies [] accepted
  here : {r : Refusal} {rs : List Refusal} → T r.applies → FirstApplies (r ∷ rs) r.code
  later : {r : Refusal} {rs : List Refusal} {n : ℕ} → T (not r.applies) → FirstApplies rs n → FirstApplies (r ∷ rs) n

-- the second number is zero, and the state and the list are as they were
pub record Unchanged (s list : List ℕ) (o : Outcome) : Type 0 where
  pub second_zero : o.second ≡ 0
  pub state_same : o.state ≡ s
  pub list_same : o.list ≡ list

-- rule i exists, is one for the role, and its conditions all hold for the user at this moment
pub record SatisfiedNow (t : Tables) (s : List ℕ) (u q i : ℕ) : Type 0 where
  pub exists : i < length (policy_of t).rules
  pub holds_now : T (satisfied (world_of (policy_of t) (decode s)) (decode s).rows u q (rule_numbered (policy_of t) i))

-- what an accepted activation grants: the lowest rule that is satisfied, recorded as one row more
pub record Granted (t : Tables) (s : List ℕ) (u q : ℕ) (o : Outcome) : Type 0 where
  pub satisfied_now : SatisfiedNow t s u q o.second
  pub none_lower : (i : ℕ) → i < o.second → SatisfiedNow t s u q i → ⊥
  pub one_row_more : (decode o.state).rows ≡ (decode s).rows ++ (record { user = u; role = q; rule = o.second } ∷ [])

-- some active role of the user carries the privilege
pub record CarriedNow (t : Tables) (s : List ℕ) (u x : ℕ) : Type 0 where
  pub row : Row
  pub is_active : Memᴰ row (decode s).rows
  pub of_the_user : row.user ≡ u
  pub has_right : T (direct (policy_of t) row.role x)

-- how many active rows a state of numbers has
abbrev pub active_count : List ℕ → ℕ
active_count s = length (decode s).rows

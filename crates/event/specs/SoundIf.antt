-- What is known of the tables while events are answered.
use Rattle.std.specs.Prelude.{ℕ, ◌≡◌, Bool, List, T}
use Rattle.model.specs.Values.{Tables}
use Rattle.model.specs.Layout.{policy_of}
use Rattle.model.specs.Sound.{sound_policy, sound}

-- `sound-policy` says whether the policy is sound, and the state is sound under the policy: both are sound if it says so
pub record SoundIf (t : Tables) (s : List ℕ) (sound-policy : Bool) : Type 0 where
  pub policy : sound-policy ≡ sound_policy t
  pub state : T (sound (policy_of t) s)

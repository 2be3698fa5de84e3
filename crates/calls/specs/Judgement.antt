-- What the public calls ask first: "1, 2, 3 come first".
use Rattle.std.specs.Prelude.{ℕ, not, List, [], ◌∷◌}
use Rattle.model.specs.Limits.{malformed_policy, unsound_state}
use Rattle.model.specs.Values.{Tables}
use Rattle.model.specs.Layout.{policy_of}
use Rattle.model.specs.Sound.{sound_policy, sound}
use Rattle.model.specs.Outcome.{◌⇒◌, first_code}

-- 1 for a malformed policy, 2 for a state that is not sound, 0 for sound tables
unfoldable pub judgement : Tables → List ℕ → ℕ
judgement t s = first_code ((not (sound_policy t) ⇒ malformed_policy) ∷ (not (sound (policy_of t) s) ⇒ unsound_state) ∷ [])

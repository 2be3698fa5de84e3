-- Tables that say which places count and which limits they have, so that several places are judged in one step.
use Rattle.std.specs.Prelude.{ℕ, ◌+◌, ◌*◌, ◌-◌, ◌≤◌, ◌<◌, ◌≡◌, Bool, false, List, ltb, length, get_or}
use Rattle.model.specs.Limits.{roles, privileges}

-- from entry 8 - n on, of eight places the first n count
pub record Counting (t : List Bool) : Type 0 where
  pub size : length t ≡ 16
  pub each : (n j : ℕ) → n ≤ 8 → j < 8 → get_or t (8 - n + j) false ≡ ltb j n

-- the limits of sixteen rights, which are a role and a privilege each
pub record RightLimits (t : List ℕ) : Type 0 where
  pub size : length t ≡ 32
  pub role : (m : ℕ) → m < 16 → get_or t (m * 2) 0 ≡ roles
  pub privilege : (m : ℕ) → m < 16 → get_or t (m * 2 + 1) 0 ≡ privileges

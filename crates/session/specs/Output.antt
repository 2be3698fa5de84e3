-- What stands in the output slice.
use Rattle.std.specs.Prelude.{ℕ, ◌≤◌, ◌≡◌, List, length, take}

-- the first `count` bytes of the output are these
pub record Holds (out : List ℕ) (count : ℕ) (bytes : List ℕ) : Type 0 where
  pub within : count ≤ length out
  pub front : take count out ≡ bytes

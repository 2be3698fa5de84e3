-- One entry of three numbers more in the table behind a count, said by places.
use Rattle.std.specs.Prelude.{ℕ, ◌+◌, ◌*◌, ◌≤◌, ◌<◌, ◌≡◌, List, length, get_or}

pub record Appended (s s' : List ℕ) (at : ℕ) (entry : List ℕ) : Type 0 where
  pub size : length s' ≡ length s
  pub count : get_or s' at 0 ≡ get_or s at 0 + 1
  pub inside : (k : ℕ) → k < 3 → get_or s' (get_or s at 0 * 3 + at + 1 + k) 0 ≡ get_or entry k 0
  pub below : (k : ℕ) → k < at → get_or s' k 0 ≡ get_or s k 0
  pub kept : (k : ℕ) → at < k → k ≤ get_or s at 0 * 3 + at → get_or s' k 0 ≡ get_or s k 0
  pub above : (k : ℕ) → get_or s at 0 * 3 + at + 3 < k → get_or s' k 0 ≡ get_or s k 0

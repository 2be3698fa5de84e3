-- What a write leaves, said by places: the numbers that it changes, and that all others are as they were.
use Rattle.std.specs.Prelude.{ℕ, ◌+◌, ◌≤◌, ◌<◌, ◌≡◌, List, length, get_or}

-- so many numbers from `from` on stand from `to` on
pub record Moved (s s' : List ℕ) (from to count : ℕ) : Type 0 where
  pub size : length s' ≡ length s
  pub below : (k : ℕ) → k < to → get_or s' k 0 ≡ get_or s k 0
  pub above : (k : ℕ) → to + count ≤ k → get_or s' k 0 ≡ get_or s k 0
  pub inside : (k : ℕ) → k < count → get_or s' (to + k) 0 ≡ get_or s (from + k) 0

-- the numbers from `from` up to `end`, without that at `end`, are zero
pub record Zeroed (s s' : List ℕ) (from end : ℕ) : Type 0 where
  pub size : length s' ≡ length s
  pub below : (k : ℕ) → k < from → get_or s' k 0 ≡ get_or s k 0
  pub above : (k : ℕ) → end ≤ k → get_or s' k 0 ≡ get_or s k 0
  pub inside : (k : ℕ) → from ≤ k → k < end → get_or s' k 0 ≡ 0

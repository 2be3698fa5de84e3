-- What the pass over the rows leaves, step by step: by places while it runs, over values once it is closed.
use Rattle.std.specs.Prelude.{ℕ, zero, suc, ◌+◌, ◌*◌, ◌≤◌, ◌<◌, ◌≡◌, Bool, true, false, cond, Option, Some, None, List, [], ◌∷◌, ◌++◌, length, get_or}
use Rattle.model.specs.Values.{with_rows}
use Rattle.model.specs.Layout.{decode, encode, row_count_at, rows_at, row_count}
use Rattle.model.specs.Limits.{row_width}
use Rattle.model.specs.declared.Row.{Row}
use Rattle.table.specs.Entries.{row_at, first_rows}
use Rattle.support.specs.Verdicts.{said_of}
use Rattle.support.specs.declared.Verdict.{Verdict}
use Rattle.support.specs.declared.Verdict.TheVariants.{Stays, Falls, Twice}

-- where row i begins
abbrev pub row_place : ℕ → ℕ
row_place i = i * row_width + rows_at

-- a row of which this is said does not fall
abbrev pub not_falling : Option Verdict → Bool
not_falling None = true
not_falling (Some Stays) = true
not_falling (Some Falls) = false
not_falling (Some Twice) = true

-- row i was not said to fall
abbrev pub is_kept : List (Option Verdict) → ℕ → Bool
is_kept verdicts i = not_falling (said_of verdicts i)

-- of the first n rows those that stay, by their places
unfoldable pub staying : (ℕ → Bool) → List ℕ → ℕ → List Row
staying stays s zero = []
staying stays s (suc n) = cond (stays n) (staying stays s n ++ (row_at s n ∷ [])) (staying stays s n)

-- of the first i rows those that stay are kept, w of them, in front; nothing else has changed but what stands between
pub record Swept (stays : ℕ → Bool) (s₀ s : List ℕ) (i w : ℕ) : Type 0 where
  pub within : w ≤ i
  pub size : length s ≡ length s₀
  pub below : (k : ℕ) → k < rows_at → get_or s k 0 ≡ get_or s₀ k 0
  pub above : (k : ℕ) → row_place i ≤ k → get_or s k 0 ≡ get_or s₀ k 0
  pub rows : first_rows s w ≡ staying stays s₀ i

-- of n rows the first w are left, with the count set; `lost` is the rows lost
pub record Closed (s s' : List ℕ) (w n lost : ℕ) : Type 0 where
  pub size : length s' ≡ length s
  pub count : row_count s' ≡ w
  pub below : (k : ℕ) → k < row_count_at → get_or s' k 0 ≡ get_or s k 0
  pub kept : (k : ℕ) → rows_at ≤ k → k < row_place w → get_or s' k 0 ≡ get_or s k 0
  pub zeros : (k : ℕ) → row_place w ≤ k → k < row_place n → get_or s' k 0 ≡ 0
  pub above : (k : ℕ) → row_place n ≤ k → get_or s' k 0 ≡ get_or s k 0
  pub lost_count : lost + w ≡ n

-- the state with these rows and nothing else changed; `lost` is the rows lost
pub record RowsLeft (s s' : List ℕ) (rows : List Row) (lost : ℕ) : Type 0 where
  pub state : s' ≡ encode (with_rows (decode s) rows)
  pub count : lost + length rows ≡ length (decode s).rows

-- of each row the test has said whether it stays, and those that stay are left
pub record RowsKept (said : ℕ → Row → Bool → Type 0) (s s' : List ℕ) (lost : ℕ) : Type 0 where
  pub says : ℕ → Bool
  pub of_each : (i : ℕ) → i < row_count s → said i (row_at s i) (says i)
  pub left : RowsLeft s s' (staying says s (row_count s)) lost

-- Where a role of a user stands in the rows.
use Rattle.std.specs.Prelude.{ℕ, zero, suc, cond, List, Option, Some, None}
use Rattle.model.specs.Conditions.{is_row}
use Rattle.table.specs.Entries.{row_at}

-- the newest of the first k rows in which the user is active in the role: one more than its place, or 0 where there is none
unfoldable pub newest : List ℕ → ℕ → ℕ → ℕ → ℕ
newest s u q zero = 0
newest s u q (suc k) = cond (is_row u q (row_at s k)) (suc k) (newest s u q k)

-- the place itself
abbrev pub before : ℕ → Option ℕ
before zero = None
before (suc i) = Some i

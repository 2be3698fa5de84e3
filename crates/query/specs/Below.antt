-- A step of a chain, as code goes: from a row to the one that it rests on first.
use Rattle.std.specs.Prelude.{ℕ, Option, Some, None, List}
use Rattle.std.specs.List.{slice_get}
use Rattle.model.specs.Values.{Tables}
use Rattle.model.specs.Layout.{policy_of}
use Rattle.model.specs.Conditions.{rests_on}
use Rattle.table.specs.Entries.{row_at}
use Rattle.rests.specs.Newest.{newest, before}

-- the place of the user's newest row for the role, among the first k; there is none where there is no role
abbrev pub place_for : List ℕ → ℕ → ℕ → Option ℕ → Option ℕ
place_for s u k None = None
place_for s u k (Some q) = before (newest s u q k)

-- the row that row k rests on first
abbrev pub row_below : Tables → List ℕ → ℕ → ℕ → Option ℕ
row_below t s u k = place_for s u k (slice_get (rests_on (policy_of t) (row_at s k)) 0)

-- What is left once the rows that lost their support have fallen.
use Rattle.std.specs.Prelude.{ℕ, ◌+◌, ◌≡◌, Bool, List, [], length}
use Rattle.model.specs.Lists.{all_over_earlier}
use Rattle.model.specs.Values.{State, world_of, with_rows}
use Rattle.model.specs.Layout.{policy_of, encode}
use Rattle.model.specs.Conditions.{supported}
use Rattle.model.specs.Left.{left}
use Rattle.table.specs.Entries.{without_rights}
use Rattle.model.specs.declared.Row.{Row}

-- the rows of the state v that are left
abbrev pub fallen_rows : List ℕ → List ℕ → State → List Row
fallen_rows rules kinds v = left (supported (world_of (policy_of (without_rights rules kinds)) v)) v.rows

-- each row of the state v is supported by those before it
abbrev pub all_supported : List ℕ → List ℕ → State → Bool
all_supported rules kinds v = all_over_earlier (supported (world_of (policy_of (without_rights rules kinds)) v)) [] v.rows

-- s' is v with these rows alone, as numbers; `lost` is the rows lost
pub record Fallen (rules kinds : List ℕ) (v : State) (s' : List ℕ) (lost : ℕ) : Type 0 where
  pub state : s' ≡ encode (with_rows v (fallen_rows rules kinds v))
  pub count : lost + length (fallen_rows rules kinds v) ≡ length v.rows

-- Effective privileges, as code asks for them: from the last row down.
use Rattle.std.specs.Prelude.{ℕ, ◌<◌, ◌≡◌, Bool, true, false, ◌||◌, cond, ◌⊎◌, List, [], ◌∷◌, reverse, get_or}
use Rattle.model.specs.Lists.{any}
use Rattle.model.specs.Limits.{roles}
use Rattle.model.specs.Values.{Tables}
use Rattle.model.specs.Layout.{policy_of, row_count}
use Rattle.model.specs.Conditions.{is_row, rests_on}
use Rattle.model.specs.declared.Row.{Row}
use Rattle.table.specs.Entries.{row_at, first_rows, Sized}
use Rattle.direct.specs.Having.{holds_right}

-- the roles of the rows are in range
abbrev pub RolesFit : List ℕ → Type 0
RolesFit s = (i : ℕ) → i < row_count s → (row_at s i).role < roles

-- the model's `carries`, where it is known which roles have the privilege themselves
abbrev pub carried : Tables → List Bool → ℕ → List Row → ℕ → Bool
carried t having u [] q = false
carried t having u (r ∷ earlier) q = cond (is_row u q r) (holds_right having q || any (λ (lower : ℕ). carried t having u earlier lower) (rests_on (policy_of t) r)) (carried t having u earlier q)

module _ (t : Tables) (having : List Bool) (s : List ℕ) (u : ℕ) where
  -- the role carries the privilege for the user u, in the first k rows
  unfoldable pub reached_in : ℕ → ℕ → Bool
  reached_in k q = carried t having u (reverse (first_rows s k)) q

  -- one of the roles on which row k rests carries it, in the first k rows
  unfoldable pub rest_reaches : ℕ → Bool
  rest_reaches k = any (reached_in k) (rests_on (policy_of t) (row_at s k))

  -- what asking leans on: a role has one row, so that it stands in no row before its own
  pub record Ready : Type 0 where
    pub sized : Sized s
    pub fits : RolesFit s
    pub once : (i : ℕ) → i < row_count s → (row_at s i).user ≡ u → reached_in i (row_at s i).role ≡ false

  -- some role that is marked carries it, in the first k rows; none does
  abbrev pub SomeReached : List Bool → ℕ → Type 0
  SomeReached asked k = (q : ℕ) × (q < roles) × (get_or asked q false ≡ true) × (reached_in k q ≡ true)

  abbrev pub NoneReached : List Bool → ℕ → Type 0
  NoneReached asked k = (q : ℕ) → q < roles → get_or asked q false ≡ true → reached_in k q ≡ false

  -- the answer for the roles that are marked, and for what is asked beside them
  pub record Tells (asked : List Bool) (k : ℕ) (beside r : Bool) : Type 0 where
    pub yes : r ≡ true → (beside ≡ true) ⊎ SomeReached asked k
    pub no : r ≡ false → (beside ≡ false) × NoneReached asked k

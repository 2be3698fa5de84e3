-- What is said of each active row in the pass from the first to the last.
use Rattle.std.specs.Prelude.{ℕ, ◌≤◌, ◌<◌, ◌≡◌, ◌≢◌, cond, Option, Some, None, IsSome, List, length, get_or}
use Rattle.model.specs.Limits.{most_rows}
use Rattle.model.specs.Values.{World}
use Rattle.model.specs.Layout.{row_count}
use Rattle.model.specs.Conditions.{active, supported}
use Rattle.model.specs.Left.{left}
use Rattle.model.specs.declared.Lent.{Lent}
use Rattle.model.specs.declared.Row.{Row}
use Rattle.table.specs.Entries.{row_at, first_rows, world_at}
use Rattle.support.specs.declared.Verdict.{Verdict}
use Rattle.support.specs.declared.Verdict.TheVariants.{Stays, Falls, Twice}

-- what a state is judged under, with the tables that are lent
abbrev pub world_under : Lent → List ℕ → World
world_under policy s = world_at policy.rules.now policy.kinds.now s

-- what is left of the first k rows
abbrev pub kept : World → List ℕ → ℕ → List Row
kept w s k = left (supported w) (first_rows s k)

-- over rows: what they support stays; twice, where its user is in its role by an earlier row
abbrev pub verdict : World → List Row → Row → Verdict
verdict w rows r = cond (supported w rows r) (cond (active rows r.user r.role) Twice Stays) Falls

-- row k, judged over what is left of those before it
abbrev pub verdict_at : World → List ℕ → ℕ → Verdict
verdict_at w s k = verdict w (kept w s k) (row_at s k)

-- what is said of row k, if it is judged
abbrev pub said_of : List (Option Verdict) → ℕ → Option Verdict
said_of verdicts k = get_or verdicts k None

-- what was said is so
pub record Correct (w : World) (s : List ℕ) (verdicts : List (Option Verdict)) : Type 0 where
  pub size : length verdicts ≡ most_rows
  pub said : (k : ℕ) → k < row_count s → IsSome (said_of verdicts k) → said_of verdicts k ≡ Some (verdict_at w s k)

-- all that was said before is said still, all rows of row i's user from i on are judged, and of other users nothing is said anew
pub record UserJudged (w : World) (s : List ℕ) (i : ℕ) (before after : List (Option Verdict)) : Type 0 where
  pub correct : Correct w s after
  pub still : (k : ℕ) → IsSome (said_of before k) → IsSome (said_of after k)
  pub all_rows : (k : ℕ) → i ≤ k → k < row_count s → (row_at s k).user ≡ (row_at s i).user → IsSome (said_of after k)
  pub others : (k : ℕ) → (row_at s k).user ≢ (row_at s i).user → said_of after k ≡ said_of before k

-- all rows are judged
pub record Judged (w : World) (s : List ℕ) (verdicts : List (Option Verdict)) : Type 0 where
  pub size : length verdicts ≡ most_rows
  pub said : (k : ℕ) → k < row_count s → said_of verdicts k ≡ Some (verdict_at w s k)

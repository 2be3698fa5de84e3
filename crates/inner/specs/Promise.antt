-- The tables as they are lent to a call, and what a call on them promises.
use Rattle.std.specs.Prelude.{ℕ, List, []}
use Rattle.model.specs.Values.{Tables}
use Rattle.model.specs.Outcome.{Keeps}
use Rattle.model.specs.Answered.{Answer, code, second}
use Rattle.model.specs.Calls.{Call, answer}
pub use Rattle.table.specs.Entries.{lent}

-- the call, lent this list, answers r and leaves the state s' and the list list': code, second number and every number of both
abbrev pub AnswersWith : Tables → List ℕ → List ℕ → Call → Answer → List ℕ → List ℕ → Type 0
AnswersWith t s list c r s' list' = Keeps (answer t s list c) (code r) (second r) s' list'

-- the same of a call that is lent no list
abbrev pub Answers : Tables → List ℕ → Call → Answer → List ℕ → Type 0
Answers t s c r s' = AnswersWith t s [] c r s' []

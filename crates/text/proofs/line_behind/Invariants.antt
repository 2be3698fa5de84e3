-- The invariant: of the fields behind the word, those before the place are taken.
use Prim.Native.Nat.{◌≤◌, ◌-◌}
use lib.ListN.{length}
use Rattle.program.specs.Lines.{most_numbers}
use Rattle.text.specs.Places.{said_behind}
use Rattle.text.proofs.Arguments.{Taken}
use Rattle.text.proofs.line_behind.Given as goal

abbrev pub invariant-loop-at : goal.invariant-loop-at
invariant-loop-at l = (l.at ≤ length l.bytes) × (l.count ≤ most_numbers) × Taken (said_behind l.bytes l.from) (said_behind l.bytes l.at) l.count l.numbers

abbrev pub decreases-loop-at : goal.decreases-loop-at
decreases-loop-at l = length l.bytes - l.at

-- The invariant: the digits from here on, behind the value so far, write what all of them write.
use Prim.Native.Nat.{◌≤◌}
use mathlib.Core.Path.{◌≡◌}
use lib.ListN.{drop}
use Rattle.text.specs.Places.{written_behind}
use Rattle.text.proofs.value_written.Given as goal

abbrev pub invariant-loop-b : goal.invariant-loop-b
invariant-loop-b l = (l.value ≤ 65535) × (written_behind l.value (drop l.b-index l.field) ≡ written_behind 0 l.field)

-- The invariant: the records so far are rows of the tables.
use Prim.Native.Nat.{◌-◌}
use mathlib.Core.Path.{◌≡◌}
use lib.ListN.{length}
use Rattle.load.specs.Filling.{SameTables}
use Rattle.load.proofs.Machines.{Going}
use Rattle.load.proofs.load.Given as goal

abbrev pub invariant-loop-line : goal.invariant-loop-line
invariant-loop-line l = (l.reader.text.now ≡ l.text) × SameTables l.initial.tables l.tables × Going l.text l.reader.at l.taken l.tables

abbrev pub decreases-loop-line : goal.decreases-loop-line
decreases-loop-line l = length l.text - l.reader.at

-- The invariant: the user's roles in the rows passed are marked.
use mathlib.Core.List.{[]}
use Rattle.table.specs.Entries.{first_rows}
use Rattle.marks.specs.Owned.{Own}
use Rattle.marks.proofs.mark_roles.Given as goal

abbrev pub invariant-loop-i : goal.invariant-loop-i
invariant-loop-i l = Own l.user l.own (first_rows l.state l.i) []

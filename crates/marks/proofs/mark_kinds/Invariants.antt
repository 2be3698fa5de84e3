-- The invariant: the kinds of the certificates passed that stand for the user are marked.
use Rattle.model.specs.Layout.{decode}
use Rattle.table.specs.Entries.{first_certificates}
use Rattle.marks.specs.Owned.{Own}
use Rattle.marks.proofs.mark_kinds.Given as goal

abbrev pub invariant-loop-i : goal.invariant-loop-i
invariant-loop-i l = Own l.user l.own (decode l.state).rows (first_certificates l.state l.i)

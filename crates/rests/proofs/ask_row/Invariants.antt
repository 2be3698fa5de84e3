-- The invariant: the conditions passed have asked, and nothing else was marked.
use Rattle.rests.proofs.Marking.{AskedSoFar}
use Rattle.rests.proofs.ask_row.Given as goal

abbrev pub invariant-loop-number : goal.invariant-loop-number
invariant-loop-number l = AskedSoFar l.initial.asked l.asked l.number-items l.number-index

-- The invariant: the walk is what stands in the list and what is still to be written from the next row on, and that row is the user's.
use Rattle.query.proofs.Walk.{Walking, reach}
use Rattle.query.proofs.chain.Given as goal

abbrev pub invariant-loop-next : goal.invariant-loop-next
invariant-loop-next l = Walking l.policy.rules.now l.policy.kinds.now l.policy.rights.now l.state l.user l.role l.list l.n l.next

abbrev pub decreases-loop-next : goal.decreases-loop-next
decreases-loop-next l = reach l.next

-- The invariant: the roles passed are marked beside what was marked before.
use Rattle.rests.proofs.Marking.{RolesMarked}
use Rattle.rests.proofs.ask_kind.Given as goal

abbrev pub invariant-loop-role : goal.invariant-loop-role
invariant-loop-role l = RolesMarked l.initial.asked l.asked l.role-items l.role-index

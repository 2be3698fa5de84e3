-- The invariant: what stands after i rows is those of which the test said that they stay.
use Rattle.fall.proofs.Swept.{Passing}
use Rattle.fall.proofs.sweep.Given as goal

abbrev pub invariant-loop-i : goal.invariant-loop-i
invariant-loop-i g l = Passing (λ k r b. goal.F-post g l.stays k r b) l.initial.state l.state l.i l.w

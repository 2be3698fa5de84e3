-- The invariant: the certificates passed are marked, and `next` is the next that may be the user's.
use Prim.Native.Nat.{◌-◌}
use Rattle.model.specs.Layout.{certificate_count}
use Rattle.queues.proofs.Linking.{reach}
use Rattle.support.proofs.Entering.{Entering}
use Rattle.support.proofs.Pass.enter_kinds.Given as goal

abbrev pub invariant-loop-next : goal.invariant-loop-next
invariant-loop-next l = Entering l.self.state.now l.user l.own l.next

abbrev pub decreases-loop-next : goal.decreases-loop-next
decreases-loop-next l = certificate_count l.self.state.now - reach (certificate_count l.self.state.now) l.next

-- The invariant: the entries from i on are queued.
use Rattle.queues.proofs.Linking.{Queueing}
use Rattle.queues.proofs.Queues.queue_up.Given as goal

abbrev pub invariant-loop-i : goal.invariant-loop-i
invariant-loop-i l = Queueing l.state l.place l.n l.i l.self.heads l.self.next

-- The invariant: the rows passed are judged as far as they are the user's, and the marks are what is left of them.
use Prim.Native.Nat.{◌-◌}
use Rattle.model.specs.Layout.{row_count}
use Rattle.queues.proofs.Linking.{reach}
use Rattle.support.specs.Verdicts.{world_under}
use Rattle.support.proofs.Walking.{Walked}
use Rattle.support.proofs.Pass.judge_user.Given as goal

abbrev pub invariant-loop-next : goal.invariant-loop-next
invariant-loop-next l = Walked (world_under l.self.policy l.self.state.now) l.self.state.now l.user l.i l.initial.verdicts l.own l.verdicts l.next

abbrev pub decreases-loop-next : goal.decreases-loop-next
decreases-loop-next l = row_count l.self.state.now - reach (row_count l.self.state.now) l.next

use Prim.Native.Nat.{◌-◌}
use mathlib.Core.Path.{subst⁻¹}
use native.Mathlib.Omega.{arith}
use Rattle.queues.specs.declared.Queues.{Queues}
use Rattle.queues.proofs.Linking.{Queueing, queueing_none, queueing_more, queueing_all}
use Rattle.queues.proofs.Queues.queue_up.Goals as goal

pub loop-i-init : goal.loop-i-init
loop-i-init c = let n = c.args.n in subst⁻¹ (λ (q : Queues). Queueing c.args.state.now c.args.place n n q.heads q.next) c.requires.2 (queueing_none c.args.state.now c.args.place n)

pub loop-i-preserved : goal.loop-i-preserved
loop-i-preserved c = queueing_more c.args.state.now c.args.place c.args.n (c.loop-i.i - 1) c.queue_of-b.result (omega arith) c.requires.0 (omega arith) c.queue_of-b.ensures.own c.queue_of-b.ensures.few c.loop-i.invariant

pub returns : goal.returns
returns c = queueing_all c.args.state.now c.args.place c.args.n (omega arith) c.loop-i.invariant

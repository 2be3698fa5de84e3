use Rattle.calls.proofs.Judged.{fresh-length}
use Rattle.calls.proofs.fresh.Goals as goal

pub returns-then-state-ne-STATE_SIZE : goal.returns-then-state-ne-STATE_SIZE
returns-then-state-ne-STATE_SIZE c = fresh-length c.args.state.now c.if-state-ne-STATE_SIZE.true

use Rattle.inner.proofs.Clearing.{fresh-zeros}
use Rattle.inner.proofs.fresh.Goals as goal

pub returns : goal.returns
returns c = fresh-zeros c.args.state.now _ c.requires c.zero.ensures

use native.Mathlib.Omega.{arith}
use Rattle.table.proofs.Form.{formed}
use Rattle.change.proofs.Changed.{fact-set}
use Rattle.change.proofs.set_fact.Goals as goal

pub bounds-state-fact : goal.bounds-state-fact
bounds-state-fact c = omega (arith, (formed c.args.state.now c.requires.0).size)

pub returns : goal.returns
returns c = fact-set c.args.state.now c.args.fact c.args.value (formed c.args.state.now c.requires.0) c.requires.1 c.requires.2

use native.Mathlib.Omega.{arith}
use Rattle.table.proofs.Form.{formed}
use Rattle.change.proofs.Changed.{certificate_appended}
use Rattle.change.proofs.append_certificate.Goals as goal

pub append-requires : goal.append-requires
append-requires c = (c.requires.1, omega (arith, (formed c.args.state.now c.requires.0).size))

pub returns : goal.returns
returns c = certificate_appended c.args.state.now c.append.new.state c.args.certificate (formed c.args.state.now c.requires.0) c.requires.1 c.append.ensures

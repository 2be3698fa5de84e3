use mathlib.Core.Path.{refl}
use Rattle.direct.proofs.Having.{said-none, said_all}
use Rattle.direct.proofs.roles_having.Goals as goal

pub loop-i-init : goal.loop-i-init
loop-i-init c = said-none c.args.rights.now c.args.privilege 256

pub returns : goal.returns
returns c = said_all c.args.rights.now c.args.privilege _ _ refl c.note.array_long c.note.ensures

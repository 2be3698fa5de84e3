use mathlib.Core.Path.{sym, ◌∙◌}
use Rattle.direct.proofs.Having.{said_sixteen}
use Rattle.direct.proofs.note_sixteen.Goals as goal

pub returns-else-is_met : goal.returns-else-is_met
returns-else-is_met c = said_sixteen c.args.rights.now c.args.privilege c.args.from c.args.having.now c.requires.1 (sym c.is_met.ensures ∙ c.if-is_met.false) c.requires.2

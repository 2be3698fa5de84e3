use mathlib.Core.Path.{ap, ◌∙◌}
use Rattle.program.specs.Vocabulary.{same}
use Rattle.text.proofs.Letters.{same_by_bytes}
use Rattle.text.proofs.says.Goals as goal

pub returns : goal.returns
returns c = c.eq.ensures ∙ same_by_bytes c.args.field.now c.spelling.result.now ∙ ap (same c.args.field.now) c.spelling.ensures

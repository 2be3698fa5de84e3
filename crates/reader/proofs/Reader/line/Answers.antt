use mathlib.Core.Path.{ap, ◌∙◌}
use Rattle.program.specs.Lines.{line_of}
use Rattle.reader.specs.Reading.{line_at}
use Rattle.reader.proofs.Reader.line.Goals as goal

pub returns : goal.returns
unfolding line_at
returns c = c.line_of.ensures ∙ ap line_of c.record.ensures

use mathlib.Core.Path.{ap, ◌∙◌}
use native.Mathlib.Omega.{arith}
use Rattle.program.specs.Vocabulary.{words}
use Rattle.program.specs.Said.{line_said}
use Rattle.text.proofs.Ends.{field-within}
use Rattle.text.proofs.Arguments.{no_word, line_is}
use borrow.Author.Rules.{rules}
use Rattle.text.proofs.line_of.Goals as goal

pub field-requires : goal.field-requires
field-requires c = field-within _ 0 _ c.field_end-end.ensures (search rules)

pub returns-in_err-word : goal.returns-in_err-word
returns-in_err-word c = ap line_said c.from_residual.ensures ∙ no_word words _ (omega arith) ∙ line_is _ _ c.field_end-end.ensures _ c.field.ensures words c.in_err-word.ensures

pub line_behind-requires : goal.line_behind-requires
line_behind-requires c = (field-within _ 0 _ c.field_end-end.ensures (search rules)).inside

pub returns : goal.returns
returns c = c.line_behind.ensures ∙ line_is _ _ c.field_end-end.ensures _ c.field.ensures _ c.in_ok-word.ensures

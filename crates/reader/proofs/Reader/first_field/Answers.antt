use mathlib.Core.Path.{◌∙◌}
use Rattle.text.proofs.Ends.{field-within}
use Rattle.reader.proofs.Walking.{first_field}
use borrow.Author.Rules.{rules}
use Rattle.reader.proofs.Reader.first_field.Goals as goal

pub field-requires : goal.field-requires
field-requires c = field-within _ 0 _ c.field_end-end.ensures (search rules)

pub returns : goal.returns
returns c = c.field.ensures ∙ first_field _ _ _ c.record-bytes.ensures _ c.field_end-end.ensures

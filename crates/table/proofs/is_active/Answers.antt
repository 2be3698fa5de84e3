use Rattle.std.proofs.Common.{rules, refl}
use borrow.Author.Tests.{tests}
use Rattle.model.specs.Layout.{row_from, row_numbers}
use Rattle.model.specs.Conditions.{is_row, active}
use Rattle.table.specs.Entries.{row_at, first_rows}
use Rattle.table.proofs.Passes.{any_of_entries}
use Rattle.table.proofs.is_active.Goals as goal

pub returns : goal.returns
unfolding active first_rows row_at
returns c = any_of_entries row_from 3 (row_numbers c.args.state.now) (is_row c.args.user c.args.role) c.args.k _ _ _ c.any.ensures.ran refl (λ i b q k. search (rules, tests))

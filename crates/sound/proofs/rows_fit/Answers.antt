use Rattle.std.proofs.Common.{rules}
use borrow.Author.Tests.{tests}
use Rattle.model.specs.Layout.{row_from, row_numbers, row_count, decode}
use Rattle.table.specs.Entries.{row_at, rules_only}
use Rattle.table.proofs.Passes.{all_of_entries}
use Rattle.sound.specs.Fitting.{row_fits}
use Rattle.sound.proofs.rows_fit.Goals as goal

pub returns : goal.returns
unfolding decode row_at
returns c = all_of_entries row_from 3 (row_numbers c.args.state.now) (row_fits (rules_only c.args.rules.now)) (row_count c.args.state.now) _ _ _ c.all.ensures.ran (cc) (λ i b q k. search (rules, tests))

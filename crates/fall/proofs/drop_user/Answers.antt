use Prim.Native.Nat.{ℕ}
use mathlib.Core.Bool.{not}
use Rattle.model.specs.Layout.{decode, row_count}
use Rattle.model.specs.Calls.{of_user}
use Rattle.table.specs.Entries.{row_at, first_rows}
use Rattle.fall.proofs.Swept.{kept_as, staying-without}
use borrow.Author.Rules.{rules}
use borrow.Author.Tests.{tests}
use Rattle.fall.proofs.drop_user.Goals as goal

pub returns : goal.returns
unfolding decode first_rows
returns c = kept_as (λ (i : ℕ). not (of_user c.args.user (row_at c.args.state.now i))) c.sweep.ensures (λ i l b k. search (rules, tests)) (staying-without (of_user c.args.user) c.args.state.now (row_count c.args.state.now))

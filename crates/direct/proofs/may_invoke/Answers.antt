use mathlib.Core.Path.{refl, sym, ap, ◌∙◌}
use mathlib.Core.Bool.{◌&&◌}
use mathlib.Core.List.{[]}
use lib.Dec.{eqb}
use Rattle.std.proofs.Common.{rules}
use borrow.Author.Tests.{tests}
use Rattle.model.specs.Layout.{policy_of, decode, row_from, row_numbers}
use Rattle.model.specs.Calls.{allowed}
use Rattle.model.specs.declared.Row.{Row}
use Rattle.table.specs.Entries.{lent, row_at, first_rows}
use Rattle.table.proofs.Passes.{any_of_entries}
use Rattle.direct.specs.Having.{holds_right}
use Rattle.direct.proofs.Having.{rows_having}
use Rattle.direct.proofs.may_invoke.Goals as goal

pub returns-then-n-eq0 : goal.returns-then-n-eq0
unfolding allowed decode first_rows
returns-then-n-eq0 c = sym (ap (λ (n : _). allowed (policy_of (lent [] [] c.args.rights.now)) (first_rows c.args.state.now n) c.args.user c.args.privilege) (sym c.from-n.ensures ∙ c.if-n-eq0.true))

pub returns : goal.returns
unfolding decode first_rows row_at
returns c = let having = c.roles_having-having in
    any_of_entries row_from 3 (row_numbers c.args.state.now) (λ (r : Row). eqb r.user c.args.user && holds_right having.result r.role) c.from-n.result _ _ _ c.any.ensures.ran refl (λ i b q k. search (rules, tests))
    ∙ rows_having c.args.rights.now c.args.privilege having.result c.args.user (first_rows c.args.state.now c.from-n.result) having.ensures
    ∙ ap (λ (n : _). allowed (policy_of (lent [] [] c.args.rights.now)) (first_rows c.args.state.now n) c.args.user c.args.privilege) c.from-n.ensures

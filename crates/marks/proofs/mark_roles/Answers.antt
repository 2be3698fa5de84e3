use Rattle.std.proofs.Common.{ℕ, ◌≡◌, Bool, List, [], ap, ◌+◌, subst, arith}
use mathlib.Core.Path.{subst⁻¹}
use Rattle.model.specs.Layout.{decode, row_count}
use Rattle.model.specs.declared.Row.{Row}
use Rattle.table.specs.Entries.{first_rows}
use Rattle.marks.specs.Owned.{Own}
use Rattle.marks.proofs.Owning.{own-none, row_in_range, roles_on, roles_past}
use Rattle.marks.proofs.mark_roles.Goals as goal
use Rattle.marks.proofs.mark_roles.Goals.{then-row-user, else-row-user}

pub loop-i-init : goal.loop-i-init
unfolding first_rows
loop-i-init c = subst⁻¹ (λ (l : List Bool). Own c.args.user l [] []) c.requires.1 (own-none c.args.user)

pub bounds-own-from : goal.bounds-own-from
bounds-own-from c = omega (arith, ap (λ (x : Row). x.role) c.row_at-row.ensures, (row_in_range c.args.state.now c.requires.0 c.loop-i.i (omega arith)).1)

pub loop-i-preserved : goal.loop-i-preserved
loop-i-preserved c =
    let next : List Bool → Type 0 = λ own. Own c.args.user own (first_rows c.args.state.now (c.loop-i.i + 1)) [] in
    elim c.if-row-user.branch [
      | then-row-user w ↦ subst⁻¹ next w.own-is (roles_on c.args.state.now c.loop-i.own c.args.user c.loop-i.i [] c.row_at-row.result c.row_at-row.ensures c.loop-i.invariant w.from.result c.requires.0 (omega arith) w.if-row-user.true w.from.ensures)
      | else-row-user w ↦ subst⁻¹ next w.own-is (roles_past c.args.state.now c.loop-i.own c.args.user c.loop-i.i [] c.row_at-row.result c.row_at-row.ensures c.loop-i.invariant w.if-row-user.false)
    ]

pub returns : goal.returns
unfolding decode first_rows
returns c = let e : c.loop-i.i ≡ row_count c.args.state.now = omega arith in subst (λ (n : ℕ). Own c.args.user c.loop-i.own (first_rows c.args.state.now n) []) e c.loop-i.invariant

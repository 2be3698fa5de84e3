use Rattle.std.proofs.Common.{ℕ, [], eqb, get_or, get_or-take, sym, ap, ◌∙◌, arith}
use Rattle.model.specs.Layout.{decode}
use Rattle.model.proofs.Meaning.{kind_in_range, fact_in_range}
use Rattle.table.specs.Entries.{world_at}
use Rattle.marks.specs.Marked.{has, holds_by}
use Rattle.marks.proofs.condition_holds.Goals as goal

pub kind_holds-requires : goal.kind_holds-requires
kind_holds-requires c = (kind_in_range c.args.number c.in-Kind.kind c.in-Kind.ensures).1

pub bounds-state-from : goal.bounds-state-from
bounds-state-from c = omega (arith, fact_in_range c.args.number c.in-Fact.fact c.in-Fact.ensures)

pub returns-in-Role : goal.returns-in-Role
unfolding holds_by
returns-in-Role c = c.role_marked.ensures ∙ ap (holds_by (has c.args.own.now) (world_at [] c.args.kinds.now c.args.state.now)) c.in-Role.ensures

pub returns-in-Kind : goal.returns-in-Kind
unfolding holds_by
returns-in-Kind c = c.kind_holds.ensures ∙ ap (holds_by (has c.args.own.now) (world_at [] c.args.kinds.now c.args.state.now)) c.in-Kind.ensures

pub returns-in-Fact : goal.returns-in-Fact
unfolding holds_by decode
returns-in-Fact c =
    ap (λ (n : ℕ). eqb (get_or c.args.state.now n 0) 1) c.from-in-Fact.ensures
    ∙ sym (ap (λ (n : ℕ). eqb n 1) (get_or-take 64 c.args.state.now c.in-Fact.fact 0 (fact_in_range c.args.number c.in-Fact.fact c.in-Fact.ensures)))
    ∙ ap (holds_by (has c.args.own.now) (world_at [] c.args.kinds.now c.args.state.now)) c.in-Fact.ensures

pub returns-in-Malformed : goal.returns-in-Malformed
unfolding holds_by
returns-in-Malformed c = ap (holds_by (has c.args.own.now) (world_at [] c.args.kinds.now c.args.state.now)) c.in-Malformed.ensures

use Rattle.std.proofs.Common.{arith, refl, ◌∙◌}
use Rattle.model.proofs.Meaning.{role_in_range, kind_in_range}
use Rattle.rests.proofs.Asking.{asked-none}
use Rattle.rests.proofs.Marking.{known-role, known-kind, known-none}
use Rattle.rests.proofs.ask_known.Goals as goal

pub bounds-asked-from : goal.bounds-asked-from
bounds-asked-from c = omega (arith, role_in_range c.args.number c.in-Role.role c.in-Role.ensures)

pub bounds-asked-from-in-Kind : goal.bounds-asked-from-in-Kind
bounds-asked-from-in-Kind c = omega (arith, kind_in_range c.args.number c.in-Kind.field-0 c.in-Kind.ensures)

pub returns-in-Role : goal.returns-in-Role
returns-in-Role c =
    let r = role_in_range c.args.number c.in-Role.role c.in-Role.ensures in
    known-role c.args.asked.now c.args.number c.from-in-Role.result c.told-asked (c.from-in-Role.ensures ∙ r.0) (omega (arith, r))

pub returns-in-Kind : goal.returns-in-Kind
returns-in-Kind c =
    let r = kind_in_range c.args.number c.in-Kind.field-0 c.in-Kind.ensures in
    known-kind c.args.asked.now c.args.number c.from-in-Kind.result _ c.from-in-Kind.ensures refl (omega (arith, r)) (omega (arith, r))

pub returns-in-Fact : goal.returns-in-Fact
returns-in-Fact c = known-none c.args.asked.now c.args.number (λ kinds. asked-none kinds c.args.number c.from.result c.from.ensures c.in-Fact.is)

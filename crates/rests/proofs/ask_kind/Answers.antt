use Rattle.std.proofs.Common.{ℕ, ◌+◌, [], ap, ◌∙◌, arith}
use Rattle.model.specs.Layout.{policy_of}
use Rattle.model.specs.Conditions.{prerequisite_roles, kind_numbered}
use Rattle.table.specs.Entries.{without_rights}
use Rattle.rests.proofs.Asking.{asked-kind, kind-meant}
use Rattle.rests.proofs.Marking.{kind_marked}
use Rattle.rests.proofs.ask_kind.Goals as goal

pub returns : goal.returns
returns c =
    kind_marked c.args.kinds.now c.args.asked.now c.loop-role.asked c.prerequisite_roles-role-items.result.now c.loop-role.role-index (256 + c.args.kind) c.from-2.result (omega arith)
    (c.prerequisite_roles-role-items.ensures
    ∙ ap prerequisite_roles (c.kind_numbered-row.ensures ∙ ap (λ (n : ℕ). kind_numbered (policy_of (without_rights [] c.args.kinds.now)) n) c.from.ensures)
    ∙ asked-kind c.args.kinds.now (256 + c.args.kind) c.args.kind (kind-meant c.args.kind c.requires.0))
    (omega arith) c.from-2.ensures (omega arith) (omega (arith, c.requires.0)) c.requires.1 c.loop-role.invariant

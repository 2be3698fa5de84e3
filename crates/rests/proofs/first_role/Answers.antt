use Rattle.std.proofs.Common.{ℕ, List, [], ap, ◌∙◌}
use Rattle.std.specs.List.{slice_get}
use Rattle.model.specs.Layout.{policy_of}
use Rattle.model.specs.Conditions.{prerequisite_roles, kind_numbered}
use Rattle.table.specs.Entries.{without_rights}
use Rattle.rests.proofs.Asking.{asked-role, asked-kind, asked-none}
use Rattle.rests.proofs.first_role.Goals as goal

pub returns-in-Role : goal.returns-in-Role
returns-in-Role c = ap (λ (l : List ℕ). slice_get l 0) (asked-role c.args.kinds.now c.args.number c.in-Role.role c.in-Role.ensures)

pub returns-in-Kind : goal.returns-in-Kind
returns-in-Kind c =
    c.copied.ensures
    ∙ c.first.ensures.value
    ∙ ap (λ (l : List ℕ). slice_get l 0)
    (c.prerequisite_roles.ensures
    ∙ ap prerequisite_roles (c.kind_numbered.ensures ∙ ap (λ (n : ℕ). kind_numbered (policy_of (without_rights [] c.args.kinds.now)) n) c.from-in-Kind.ensures)
    ∙ asked-kind c.args.kinds.now c.args.number c.in-Kind.kind c.in-Kind.ensures)

pub returns-in-Fact : goal.returns-in-Fact
returns-in-Fact c = ap (λ (l : List ℕ). slice_get l 0) (asked-none c.args.kinds.now c.args.number c.from.result c.from.ensures c.in-Fact.is)

use Rattle.std.proofs.Common.{ℕ, [], ap, ◌∙◌, nat_eq}
use Rattle.model.specs.Layout.{decode, policy_of}
use Rattle.model.specs.Conditions.{kind_numbered}
use Rattle.table.specs.Entries.{without_rights}
use Rattle.inner.proofs.Codes.{active_now}
use Rattle.taking.proofs.Modes.{by_role}
use Rattle.taking.proofs.may_revoke.Goals as goal

pub returns-in-1 : goal.returns-in-1
returns-in-1 c =
    c.is_active.ensures
    ∙ active_now c.args.state.now c.from-k.result c.args.caller _ c.from-k.ensures
    ∙ by_role (decode c.args.state.now).rows c.kind_numbered-row.result (kind_numbered (policy_of (without_rights [] c.args.kinds.now)) c.args.certificate.kind) c.args.caller c.args.certificate.appointer
    (c.kind_numbered-row.ensures ∙ ap (λ (n : ℕ). kind_numbered (policy_of (without_rights [] c.args.kinds.now)) n) c.from.ensures)
    (ap (λ (n : ℕ). nat_eq n 0) c.in-1.is) (ap (λ (n : ℕ). nat_eq n 1) c.in-1.is)

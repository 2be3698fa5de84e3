use Rattle.std.proofs.Common.{ℕ, [], ap, ◌∙◌}
use Rattle.model.specs.Layout.{policy_of, decode}
use Rattle.model.specs.Conditions.{kind_numbered, active}
use Rattle.model.specs.declared.Kind.{Kind}
use Rattle.table.specs.Entries.{without_rights}
use Rattle.inner.proofs.Codes.{active_now}
use Rattle.inner.proofs.is_appointer.Goals as goal

pub returns : goal.returns
returns c =
    c.is_active.ensures
    ∙ active_now c.args.state.now c.from-k.result c.args.user c.kind_numbered-row.result.appointer c.from-k.ensures
    ∙ ap (λ (x : Kind). active (decode c.args.state.now).rows c.args.user x.appointer) (c.kind_numbered-row.ensures ∙ ap (λ (n : ℕ). kind_numbered (policy_of (without_rights [] c.args.kinds.now)) n) c.from.ensures)

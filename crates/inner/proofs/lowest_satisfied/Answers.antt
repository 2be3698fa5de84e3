use Rattle.std.proofs.Common.{rules, refl, ◌/◌, length}
use borrow.Author.Tests.{tests}
use Rattle.model.specs.Layout.{policy_of, rule_from}
use Rattle.marks.specs.Marked.{has, satisfied_by}
use Rattle.table.specs.Entries.{rule_at, world_at}
use Rattle.table.proofs.Passes.{place_of_entries}
use Rattle.inner.proofs.lowest_satisfied.Goals as goal

pub returns : goal.returns
unfolding policy_of rule_at
returns c =
    place_of_entries rule_from 11 c.args.policy.rules.now (satisfied_by (has c.args.own.now) (world_at c.args.policy.rules.now c.args.policy.kinds.now c.args.state.now) c.args.role) (length c.args.policy.rules.now / 11) _ _ _ c.position.ensures.ran refl
    (λ i b q k. search (rules, tests))

use native.Mathlib.Omega.{arith}
use Rattle.model.specs.Values.{with_fact}
use Rattle.model.specs.Layout.{decode}
use Rattle.table.proofs.Entries.{sized}
use Rattle.taking.proofs.Falls.{encoded_formed, encoded_in_range, fallen_after, fact-set-fits, none-falls}
use Rattle.taking.proofs.settle_fact.Goals as goal

pub fall-requires : goal.fall-requires
fall-requires c =
    let fits = fact-set-fits c.args.state.now c.args.fact c.args.value c.requires.0 (omega arith) in
    (encoded_formed _ _ c.set_fact.ensures fits, encoded_in_range c.args.state.now _ _ c.set_fact.ensures fits c.requires.1 (λ r m. m) (λ x m. m))

pub returns-then-value-before : goal.returns-then-value-before
returns-then-value-before c = fallen_after c.args.policy.rules.now c.args.policy.kinds.now c.set_fact.new.state _ (with_fact (decode c.args.state.now) c.args.fact c.args.value) c.fall.result c.set_fact.ensures (fact-set-fits c.args.state.now c.args.fact c.args.value c.requires.0 (omega arith)) c.fall.ensures

pub returns : goal.returns
returns c = none-falls c.args.policy.rules.now c.args.policy.kinds.now c.args.state.now _ c.args.fact c.args.value (sized c.args.state.now c.requires.0).size c.requires.2 c.requires.3 c.requires.4 c.if-value-before.false c.set_fact.ensures

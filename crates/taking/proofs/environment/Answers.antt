use Rattle.std.proofs.Common.{ℕ, arith, subst}
use Rattle.model.specs.Values.{with_fact}
use Rattle.model.specs.Layout.{decode}
use Rattle.inner.proofs.Codes.{sound_form, sound_range}
use Rattle.taking.specs.Fallen.{Fallen}
use Rattle.taking.proofs.Falls.{sound-supported, environment-no-fact, environment-no-bit, environment_done}
use Rattle.taking.proofs.environment.Goals.{then-fact-ge-FACTS-via-then-fact-ge-FACTS, then-fact-ge-FACTS-via-else-fact-ge-FACTS+then-value-gt1}
use Rattle.taking.proofs.environment.Goals as goal

pub returns-then-fact-ge-FACTS : goal.returns-then-fact-ge-FACTS
returns-then-fact-ge-FACTS c =
    elim c.then-fact-ge-FACTS.branch [
      | then-fact-ge-FACTS-via-then-fact-ge-FACTS w ↦ environment-no-fact _ _ _ _ c.requires _ _ w.if-fact-ge-FACTS.true
      | then-fact-ge-FACTS-via-else-fact-ge-FACTS+then-value-gt1 w ↦ environment-no-bit _ _ _ _ c.requires _ _ w.if-value-gt1.true
    ]

pub settle_fact-requires : goal.settle_fact-requires
settle_fact-requires c = (sound_form _ c.args.state.now c.requires, sound_range _ c.args.state.now c.requires, sound-supported _ _ _ _ c.requires, omega (arith, c.from.ensures), omega arith)

pub returns : goal.returns
returns c =
    environment_done _ _ _ _ c.requires c.args.fact c.args.value _ _ c.if-fact-ge-FACTS.false (omega arith)
    (subst (λ (n : ℕ). Fallen c.args.policy.rules.now c.args.policy.kinds.now (with_fact (decode c.args.state.now) n c.args.value) c.settle_fact.new.state c.settle_fact.result) c.from.ensures c.settle_fact.ensures)

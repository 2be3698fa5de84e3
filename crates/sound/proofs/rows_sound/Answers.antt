use mathlib.Core.Path.{refl, sym, ◌∙◌}
use Rattle.table.specs.Entries.{rules_only}
use Rattle.sound.proofs.Judged.{rows_unnamed, rows_judged}
use Rattle.sound.proofs.Ranges.{ranges}
use Rattle.sound.proofs.rows_sound.Goals as goal

pub returns-then-not-rows_fit : goal.returns-then-not-rows_fit
returns-then-not-rows_fit c = let policy = c.args.policy in sym (rows_unnamed policy.rules.now policy.kinds.now c.args.state.now (sym c.rows_fit.ensures ∙ c.if-not-rows_fit.true))

pub judge_rows-requires : goal.judge_rows-requires
judge_rows-requires c = (ranges (rules_only c.args.policy.rules.now) c.args.state.now c.requires.0 c.requires.1 (sym c.rows_fit.ensures ∙ c.if-not-rows_fit.false), refl)

pub returns : goal.returns
returns c = let policy = c.args.policy in c.each_stays.ensures ∙ rows_judged policy.rules.now policy.kinds.now c.args.state.now _ _ c.from.ensures c.requires.0 (sym c.rows_fit.ensures ∙ c.if-not-rows_fit.false) c.judge_rows.ensures

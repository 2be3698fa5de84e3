use mathlib.Core.Path.{sym, ap, ◌∙◌}
use native.Mathlib.Omega.{arith}
use Rattle.program.specs.Said.{line_said}
use Rattle.text.proofs.Ends.{field-within}
use Rattle.program.proofs.Counted.{named_known}
use Rattle.text.proofs.Arguments.{one_longer, one_more, one_not, none_left, too_many, not_numbers, count-wrong, whole_line}
use borrow.Author.Rules.{rules}
use Rattle.text.proofs.line_behind.Goals as goal

pub returns-then-count-ge-MOST_NUMBERS : goal.returns-then-count-ge-MOST_NUMBERS
returns-then-count-ge-MOST_NUMBERS c = too_many _ _ (named_known c.args.word) (omega (arith, c.if-count-ge-MOST_NUMBERS.true, one_longer _ _ _ _ _ c.loop-at.invariant.2 (search rules)))

pub field-requires : goal.field-requires
field-requires c = field-within _ _ _ c.field_end-end.ensures (search rules)

pub returns-in_err-numbers : goal.returns-in_err-numbers
returns-in_err-numbers c = ap line_said c.from_residual.ensures ∙ not_numbers _ _ (named_known c.args.word) (one_not _ _ _ _ _ c.loop-at.invariant.2 (search rules) _ c.field_end-end.ensures _ c.field.ensures (sym c.number_of.ensures ∙ c.in_err-numbers.was))

pub loop-at-smaller : goal.loop-at-smaller
loop-at-smaller c = let w = field-within _ _ _ c.field_end-end.ensures (search rules) in omega (arith, c.loop-at-test.true)

pub loop-at-preserved : goal.loop-at-preserved
loop-at-preserved c = ((field-within _ _ _ c.field_end-end.ensures (search rules)).inside, search rules, one_more _ _ _ _ _ c.loop-at.invariant.2 (search rules) _ c.field_end-end.ensures _ c.field.ensures _ c.if-count-ge-MOST_NUMBERS.false (sym c.number_of.ensures ∙ c.in_ok-numbers.was))

pub returns-then-not-count_fits : goal.returns-then-not-count_fits
returns-then-not-count_fits c = count-wrong _ _ (named_known c.args.word) _ _ (none_left _ _ _ _ _ c.loop-at.invariant.2 c.loop-at.invariant.0 (search rules)) (sym c.count_fits.ensures ∙ c.if-not-count_fits.true)

pub returns : goal.returns
returns c = whole_line _ _ (named_known c.args.word) _ _ (none_left _ _ _ _ _ c.loop-at.invariant.2 c.loop-at.invariant.0 (search rules)) (sym c.count_fits.ensures ∙ c.if-not-count_fits.false)

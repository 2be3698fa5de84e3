use mathlib.Core.Path.{sym, ◌∙◌}
use native.Mathlib.Omega.{arith}
use Rattle.text.proofs.Digits.{digits_more, digits_stop, digits_large, digits_end}
use Rattle.text.proofs.value_written.Goals as goal

pub returns-then-not-is_ascii_digit : goal.returns-then-not-is_ascii_digit
returns-then-not-is_ascii_digit c = sym (digits_stop c.args.field.now c.loop-b.b-index _ c.loop-b-test.true (sym c.is_ascii_digit.ensures.value ∙ c.if-not-is_ascii_digit.true)) ∙ c.loop-b.invariant.1

pub returns-in_err-checked_mul : goal.returns-in_err-checked_mul
returns-in_err-checked_mul c =
    c.from_residual.ensures
    ∙ sym (digits_large c.args.field.now c.loop-b.b-index _ c.loop-b-test.true (sym c.is_ascii_digit.ensures.value ∙ c.if-not-is_ascii_digit.false) (omega (arith, c.in_err-checked_mul.ensures)))
    ∙ c.loop-b.invariant.1

pub returns-in_err-value : goal.returns-in_err-value
returns-in_err-value c =
    c.from_residual-in_err-value.ensures
    ∙ sym (digits_large c.args.field.now c.loop-b.b-index _ c.loop-b-test.true (sym c.is_ascii_digit.ensures.value ∙ c.if-not-is_ascii_digit.false) (omega (arith, c.in_ok-checked_mul.ensures, c.in_err-value.ensures, c.from.ensures)))
    ∙ c.loop-b.invariant.1

pub loop-b-preserved : goal.loop-b-preserved
loop-b-preserved c =
    let next = c.in_ok-value.ensures in
    let tenfold = c.in_ok-checked_mul.ensures in
    (omega (arith, next), digits_more c.args.field.now c.loop-b.b-index _ c.loop-b-test.true c.in_ok-value.value (sym c.is_ascii_digit.ensures.value ∙ c.if-not-is_ascii_digit.false) (omega (arith, next, tenfold, c.from.ensures)) ∙ c.loop-b.invariant.1)

pub returns : goal.returns
returns c = sym (digits_end c.args.field.now _ _ c.loop-b.auto.b-index-end c.loop-b-test.false c.loop-b.invariant.0) ∙ c.loop-b.invariant.1

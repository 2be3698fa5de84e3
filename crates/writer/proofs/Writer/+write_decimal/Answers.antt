use native.Mathlib.Omega.{arith}
use Rattle.writer.proofs.Decimals.{decimal_longer, decimal_some, led_by_none, led_by_tenth, digit_fits, led_to}
use Rattle.writer.proofs.Writer.+write_decimal.Goals.{then-higher-gt0, else-higher-gt0}
use Rattle.writer.proofs.Writer.+write_decimal.Goals as goal

pub write_decimal-requires : goal.write_decimal-requires
write_decimal-requires t c = (omega arith, omega (arith, decimal_longer c.args.n (omega (arith, c.if-higher-gt0.true))))

pub write-requires : goal.write-requires
write-requires t c =
    elim c.if-higher-gt0.branch [
      | then-higher-gt0 w ↦ rw w.self-is (digit_fits _ _ _ _ _ (led_by_tenth c.args.n _ _ _ _ (omega (arith, w.if-higher-gt0.true)) w.write_decimal.ensures.wrote) c.requires)
      | else-higher-gt0 w ↦ rw w.self-is (omega (arith, decimal_some c.args.n, c.requires))
    ]

pub returns-clause-wrote : goal.returns-clause-wrote
returns-clause-wrote t c =
    elim c.if-higher-gt0.branch [
      | then-higher-gt0 w ↦ led_to _ _ _ _ _ (led_by_tenth c.args.n _ _ _ _ (omega (arith, w.if-higher-gt0.true)) w.write_decimal.ensures.wrote) _ _ (rw w.self-is at c.write.ensures.wrote)
      | else-higher-gt0 w ↦ led_to _ _ _ _ _ (led_by_none c.args.n _ _ (omega (arith, w.if-higher-gt0.false))) _ _ (rw w.self-is at c.write.ensures.wrote)
    ]

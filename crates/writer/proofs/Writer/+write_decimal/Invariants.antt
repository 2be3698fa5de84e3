-- The measure is the number: its tenth part is lower.
use Rattle.writer.proofs.Writer.+write_decimal.Given as goal

abbrev pub decreases-write_decimal : goal.decreases-write_decimal
decreases-write_decimal l = l.n

use native.Mathlib.Omega.{arith}
use Rattle.writer.proofs.Sizes.{decimal_short}
use Rattle.writer.proofs.Joined.{wrote_then}
use Rattle.writer.proofs.Writer.write_answer.Goals as goal

pub write_decimal-requires : goal.write_decimal-requires
write_decimal-requires c = omega (arith, decimal_short c.args.reply.code (omega arith))

pub write-requires : goal.write-requires
write-requires c = omega (arith, decimal_short c.args.reply.code (omega arith), c.write_decimal.ensures.wrote.place, c.write_decimal.ensures.wrote.size)

pub write_decimal-requires-2 : goal.write_decimal-requires-2
write_decimal-requires-2 c =
    omega (arith, decimal_short c.args.reply.code (omega arith), decimal_short c.args.reply.second (omega arith), c.write_decimal.ensures.wrote.place, c.write_decimal.ensures.wrote.size, c.write.ensures.wrote.place, c.write.ensures.wrote.size)

pub write_end-requires : goal.write_end-requires
write_end-requires c =
    omega (arith, decimal_short c.args.reply.code (omega arith), decimal_short c.args.reply.second (omega arith), c.write_decimal.ensures.wrote.place, c.write_decimal.ensures.wrote.size, c.write.ensures.wrote.place, c.write.ensures.wrote.size, c.write_decimal-2.ensures.wrote.place, c.write_decimal-2.ensures.wrote.size)

pub returns-clause-wrote : goal.returns-clause-wrote
returns-clause-wrote c = wrote_then _ _ _ _ _ _ _ _ (wrote_then _ _ _ _ _ _ _ _ c.write_decimal.ensures.wrote (wrote_then _ _ _ _ _ _ _ _ c.write.ensures.wrote c.write_decimal-2.ensures.wrote)) c.write_end.ensures.wrote

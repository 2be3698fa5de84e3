use native.Mathlib.Omega.{arith}
use Rattle.writer.proofs.Joined.{wrote_over}
use Rattle.writer.proofs.Writer.write.Goals as goal

pub returns-clause-wrote : goal.returns-clause-wrote
returns-clause-wrote c = wrote_over _ _ _ _ _ (omega arith) c.copy_from_slice.ensures.after c.requires

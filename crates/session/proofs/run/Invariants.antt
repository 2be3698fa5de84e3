-- The invariant: what is written so far, and that the state is sound.
use Prim.Native.Nat.{◌-◌}
use mathlib.Core.Path.{◌≡◌}
use lib.ListN.{length}
use Rattle.model.specs.Answered.{tables_of}
use Rattle.session.proofs.Runs.{Runs}
use Rattle.session.proofs.run.Given as goal

abbrev pub invariant-loop-reader : goal.invariant-loop-reader
invariant-loop-reader l =
    (l.reader.text.now ≡ l.fn.reader.text.now)
    × (l.writer.out.ghost_name ≡ l.initial.writer.out.ghost_name)
    × Runs (tables_of l.policy) l.fn.reader.text.now l.fn.reader.at l.taken l.initial.state l.sound_policy l.reader.at l.number l.writer.at l.state l.writer.out.now
    × (length l.state ≡ length l.initial.state)

abbrev pub decreases-loop-reader : goal.decreases-loop-reader
decreases-loop-reader l = length l.fn.reader.text.now - l.reader.at

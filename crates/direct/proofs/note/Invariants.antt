-- The invariant: the list says what the rights passed say.
use mathlib.Core.Path.{◌≡◌}
use lib.ListN.{length}
use Rattle.direct.specs.Having.{Said}
use Rattle.direct.proofs.note.Given as goal

abbrev pub invariant-loop-i : goal.invariant-loop-i
invariant-loop-i l = (length l.having ≡ 256) × Said l.rights l.privilege l.i l.having

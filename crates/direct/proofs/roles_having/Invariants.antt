-- The invariant: the list says what the rights passed say, sixteen at a time.
use Prim.Native.Nat.{◌*◌}
use Rattle.direct.specs.Having.{Said}
use Rattle.direct.proofs.roles_having.Given as goal

abbrev pub invariant-loop-i : goal.invariant-loop-i
invariant-loop-i l = Said l.rights l.privilege (l.i * 16) l.having

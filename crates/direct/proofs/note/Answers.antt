use Prim.Native.Nat.{◌+◌}
use mathlib.Core.Bool.{Bool}
use mathlib.Core.List.{List}
use mathlib.Core.Path.{◌≡◌, subst⁻¹, ◌∙◌}
use native.Mathlib.Omega.{arith}
use lib.ListN.{length, length-set}
use Rattle.direct.specs.Having.{Said}
use Rattle.direct.proofs.Having.{said_other, said_more, right_role}
use Rattle.direct.proofs.note.Goals.{then-right-privilege, else-right-privilege}
use Rattle.direct.proofs.note.Goals as goal

pub bounds-having-from : goal.bounds-having-from
bounds-having-from c = omega (arith, c.from.ensures, right_role c.args.rights.now c.requires.0 c.loop-i.i (omega (arith, c.requires.2)) c.right_at-right.result c.right_at-right.ensures)

pub loop-i-preserved : goal.loop-i-preserved
loop-i-preserved c =
    elim c.if-right-privilege.branch [
      | then-right-privilege w ↦ subst⁻¹ (λ (l : List Bool). (length l ≡ 256) × Said c.args.rights.now c.args.privilege (c.loop-i.i + 1) l) w.having-is (
        length-set _ _ _ ∙ c.loop-i.invariant.0,
        said_more c.args.rights.now c.args.privilege c.loop-i.i w.from.result c.right_at-right.result c.loop-i.having c.right_at-right.ensures w.if-right-privilege.true w.from.ensures (omega (arith, w.from.ensures, c.loop-i.invariant.0, right_role c.args.rights.now c.requires.0 c.loop-i.i (omega (arith, c.requires.2)) c.right_at-right.result c.right_at-right.ensures)) c.loop-i.invariant.1,
      )
      | else-right-privilege w ↦ subst⁻¹ (λ (l : List Bool). (length l ≡ 256) × Said c.args.rights.now c.args.privilege (c.loop-i.i + 1) l) w.having-is
          (c.loop-i.invariant.0, said_other c.args.rights.now c.args.privilege c.loop-i.i c.right_at-right.result c.loop-i.having c.right_at-right.ensures w.if-right-privilege.false c.loop-i.invariant.1)
    ]

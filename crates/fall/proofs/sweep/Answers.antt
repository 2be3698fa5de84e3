use Prim.Native.Nat.{◌<◌}
use mathlib.Core.Path.{◌∙◌}
use native.Mathlib.Omega.{arith}
use Rattle.table.proofs.Entries.{sized}
use Rattle.table.proofs.Form.{formed}
use Rattle.fall.proofs.Swept.{swept_sized, passing_none, passing_stays, passing_falls, passing_read, passing_closed}
use borrow.Author.Rules.{rules}
use Rattle.fall.proofs.sweep.Goals.{then-stays, else-stays}
use Rattle.fall.proofs.sweep.Goals as goal

pub bounds-state-64 : goal.bounds-state-64
bounds-state-64 g c = omega (arith, (sized c.args.state.now c.requires.formed).size)

pub loop-i-init : goal.loop-i-init
loop-i-init g c = passing_none _ c.args.state.now

pub row_at-requires : goal.row_at-requires
row_at-requires g c = let z = sized c.args.state.now c.requires.formed in
    (c.loop-i.invariant.swept.size ∙ z.size, omega (arith, c.from-n.ensures, z.rows))

pub stays-requires : goal.stays-requires
stays-requires g c = let z = sized c.args.state.now c.requires.formed in
    let few : c.loop-i.i < 256 = omega (arith, c.from-n.ensures, z.rows) in
    search rules

pub keep_row-requires : goal.keep_row-requires
keep_row-requires g c = let z = sized c.args.state.now c.requires.formed in
    (swept_sized _ c.args.state.now c.loop-i.state c.loop-i.i c.loop-i.w z (omega (arith, c.from-n.ensures, z.rows)) c.loop-i.invariant.swept, c.loop-i.invariant.swept.within, omega (arith, c.from-n.ensures, z.rows))

pub loop-i-preserved : goal.loop-i-preserved
loop-i-preserved g c = let z = sized c.args.state.now c.requires.formed in
    let few : c.loop-i.i < 256 = omega (arith, c.from-n.ensures, z.rows) in
    elim c.if-stays.branch [
      | then-stays w ↦ passing_read w.state-is w.w-is (passing_stays few c.loop-i.invariant c.row_at.ensures c.stays.ensures w.if-stays.true w.keep_row.ensures)
      | else-stays w ↦ passing_read w.state-is w.w-is (passing_falls few c.loop-i.invariant c.row_at.ensures c.stays.ensures w.if-stays.false)
    ]

pub close-requires : goal.close-requires
close-requires g c = let z = sized c.args.state.now c.requires.formed in
    (c.loop-i.invariant.swept.size ∙ z.size, omega (arith, c.loop-i.invariant.swept.within, c.loop-i.auto.i-end), omega (arith, c.from-n.ensures, z.rows))

pub returns : goal.returns
returns g c = passing_closed (formed c.args.state.now c.requires.formed) c.from-n.ensures c.loop-i.i (omega arith) c.loop-i.invariant c.close.ensures

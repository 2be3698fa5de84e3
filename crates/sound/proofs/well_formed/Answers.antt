use Rattle.std.proofs.Common.{refl}
use borrow.Author.Tests.{eq-eqb, ne_eqb}
use Rattle.sound.proofs.Forms.{form_parts}
use Rattle.model.proofs.InTurn.{second_judged, first-failed}
use Rattle.sound.proofs.well_formed.Goals as goal

pub returns-then-state-eq-STATE_SIZE : goal.returns-then-state-eq-STATE_SIZE
returns-then-state-eq-STATE_SIZE c = second_judged _ _ (form_parts c.args.state.now) refl (eq-eqb _ _ c.if-state-eq-STATE_SIZE.true) c.parts_formed.ensures

pub returns-else-state-eq-STATE_SIZE : goal.returns-else-state-eq-STATE_SIZE
returns-else-state-eq-STATE_SIZE c = first-failed _ _ (form_parts c.args.state.now) refl (ne_eqb _ _ c.if-state-eq-STATE_SIZE.false)

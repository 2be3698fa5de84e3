use Rattle.std.proofs.Common.{sym, ◌∙◌, arith}
use Rattle.table.specs.Entries.{kinds_only}
use Rattle.sound.proofs.Ranges.{certificates_range, kind_count}
use Rattle.sound.proofs.Unread.{values_parts}
use Rattle.model.proofs.InTurn.{second_judged, first-failed}
use Rattle.sound.proofs.values_sound.Goals as goal

pub rows_sound-requires : goal.rows_sound-requires
rows_sound-requires c =
    let kinds = c.args.policy.kinds.now in
    (c.requires.0, certificates_range (kinds_only kinds) c.args.state.now (omega (arith, c.requires.1, kind_count kinds)) (sym c.certificates_sound.ensures ∙ c.if-certificates_sound.true))

pub returns-then-certificates_sound : goal.returns-then-certificates_sound
returns-then-certificates_sound c = second_judged _ _ (values_parts c.args.policy.rules.now c.args.policy.kinds.now c.args.state.now) c.certificates_sound.ensures c.if-certificates_sound.true c.rows_sound.ensures

pub returns-else-certificates_sound : goal.returns-else-certificates_sound
returns-else-certificates_sound c = first-failed _ _ (values_parts c.args.policy.rules.now c.args.policy.kinds.now c.args.state.now) c.certificates_sound.ensures c.if-certificates_sound.false

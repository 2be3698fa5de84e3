-- The invariant: the certificates passed are sound, each over those before it, and the trees find each.
use Rattle.std.proofs.Common.{◌≡◌, true, []}
use Rattle.model.specs.Lists.{all_over_earlier}
use Rattle.model.specs.Sound.{certificate_sound}
use Rattle.table.specs.Entries.{first_certificates, kinds_only}
use Rattle.sound.specs.Seen.{Finds}
use Rattle.sound.proofs.each_certificate_sound.Given as goal

abbrev pub invariant-loop-i : goal.invariant-loop-i
invariant-loop-i l = record {
  finds : Finds l.seen l.i;
  of : l.seen.state.now ≡ l.fn.seen.state.now;
  sound : all_over_earlier (certificate_sound (kinds_only l.kinds)) [] (first_certificates l.fn.seen.state.now l.i) ≡ true;
}

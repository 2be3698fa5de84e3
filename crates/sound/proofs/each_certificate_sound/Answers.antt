use Rattle.std.proofs.Common.{List, ◌≡◌, ℕ, [], refl, sym, ap, ◌∙◌, arith}
use Rattle.model.specs.Lists.{all_over_earlier}
use Rattle.model.specs.Layout.{certificate_from, certificate_numbers, certificate_count, decode}
use Rattle.model.specs.Sound.{certificate_sound}
use Rattle.table.specs.Entries.{certificate_at, first_certificates, kinds_only}
use Rattle.sound.proofs.Earlier.{earlier_next, earlier_miss}
use Rattle.sound.proofs.each_certificate_sound.Goals as goal

pub loop-i-init : goal.loop-i-init
unfolding first_certificates
loop-i-init c = record { finds = c.requires.finds; of = refl; sound = refl }

pub returns-then-not-certificate_sound : goal.returns-then-not-certificate_sound
unfolding first_certificates certificate_at decode
returns-then-not-certificate_sound c =
    let s = c.args.seen.now.state.now in
    let test = certificate_sound (kinds_only c.args.kinds.now) in
    let here = λ (z : List ℕ). test (first_certificates z c.loop-i.i) (certificate_at z c.loop-i.i) in
    sym (earlier_miss certificate_from 3 test (certificate_numbers s) (certificate_count s) c.loop-i.i (omega (arith, c.from-i-end.ensures)) (ap here (sym c.loop-i.invariant.of) ∙ sym c.certificate_sound.ensures.answer ∙ c.if-not-certificate_sound.true))

pub loop-i-preserved : goal.loop-i-preserved
unfolding first_certificates certificate_at
loop-i-preserved c =
    let s = c.args.seen.now.state.now in
    let test = certificate_sound (kinds_only c.args.kinds.now) in
    let here = λ (z : List ℕ). test (first_certificates z c.loop-i.i) (certificate_at z c.loop-i.i) in
    record {
      finds = c.certificate_sound.ensures.entered c.if-not-certificate_sound.false;
      of = c.certificate_sound.ensures.same ∙ c.loop-i.invariant.of;
      sound = earlier_next certificate_from 3 test (certificate_numbers s) c.loop-i.i c.loop-i.invariant.sound (ap here (sym c.loop-i.invariant.of) ∙ sym c.certificate_sound.ensures.answer ∙ c.if-not-certificate_sound.false);
    }

pub returns : goal.returns
unfolding first_certificates decode
returns c =
    let e : c.loop-i.i ≡ certificate_count c.args.seen.now.state.now = omega (arith, c.from-i-end.ensures) in
    sym c.loop-i.invariant.sound ∙ ap (λ (m : ℕ). all_over_earlier (certificate_sound (kinds_only c.args.kinds.now)) [] (first_certificates c.args.seen.now.state.now m)) e

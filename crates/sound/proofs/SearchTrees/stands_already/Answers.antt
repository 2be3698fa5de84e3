use Rattle.std.proofs.Common.{map, Some, sym, ◌∙◌, arith}
use Rattle.model.specs.Layout.{certificate_from, certificate_numbers}
use Rattle.model.specs.Sound.{same_certificate}
use Rattle.table.specs.Entries.{certificate_at, first_certificates}
use Rattle.table.proofs.Entries.{any_hit}
use Rattle.sound.specs.Seen.{linked}
use Rattle.sound.proofs.Searching.{way_begins, way_on, link_is, stands_nowhere, finds_more}
use Rattle.sound.proofs.SearchTrees.stands_already.Goals as goal

pub loop-at-init : goal.loop-at-init
loop-at-init c =
    let seen = c.args.self.now in
    way_begins seen.state.now c.args.i (map linked seen.links) c.certificate_at-certificate.result c.beginning_of-at.result c.bits_of-bits.result c.requires.finds.seen c.certificate_at-certificate.ensures c.beginning_of-at.ensures.few c.beginning_of-at.ensures.own c.bits_of-bits.ensures

pub returns-then-same_certificate-clause-answer : goal.returns-then-same_certificate-clause-answer
unfolding first_certificates certificate_at
returns-then-same_certificate-clause-answer c =
    let seen = c.args.self.now in
    let before = c.requires.finds.earlier c.loop-at.at c.in-Some.link c.in-Some.is in
    sym (any_hit certificate_from 3 (same_certificate (certificate_at seen.state.now c.args.i)) (certificate_numbers seen.state.now) c.args.i c.from-k.result (omega (arith, before)) ((λ j. same_certificate (sym c.certificate_at-certificate.ensures j) (sym c.certificate_at.ensures j)) ∙ sym c.same_certificate.ensures ∙ c.if-same_certificate.true))

pub loop-at-preserved : goal.loop-at-preserved
loop-at-preserved c =
    let seen = c.args.self.now in
    let before = c.requires.finds.earlier c.loop-at.at c.in-Some.link c.in-Some.is in
    let there = c.from-k.ensures ∙ link_is seen.links c.loop-at.at (Some c.in-Some.link) (omega (arith, c.requires.finds.seen.size, c.loop-at.invariant.inside)) c.in-Some.is in
    way_on seen.state.now c.args.i (map linked seen.links) c.loop-at.at c.loop-at.bits c.from-k.result c.loop-at.invariant there c.certificate_at-certificate.result c.certificate_at.result c.certificate_at-certificate.ensures c.certificate_at.ensures (omega (arith, before)) c.requires.more (sym c.same_certificate.ensures ∙ c.if-same_certificate.false)

pub returns-clause-answer : goal.returns-clause-answer
returns-clause-answer c = sym (stands_nowhere c.args.self.now c.args.i c.requires.finds c.loop-at.at c.loop-at.bits c.loop-at.invariant c.in_default.is c.requires.more)

pub returns-clause-entered : goal.returns-clause-entered
returns-clause-entered c = λ q. finds_more c.args.self.now c.args.i c.requires.finds c.loop-at.at c.loop-at.bits c.loop-at.invariant c.in_default.is c.requires.more

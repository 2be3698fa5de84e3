use Rattle.std.proofs.Common.{ℕ, ◌≡◌, Bool, List, ap, ◌+◌, subst, arith}
use mathlib.Core.Path.{subst⁻¹}
use Rattle.model.specs.Layout.{decode, certificate_count}
use Rattle.model.specs.declared.Certificate.{Certificate}
use Rattle.table.specs.Entries.{first_certificates}
use Rattle.marks.specs.Owned.{Own}
use Rattle.marks.proofs.Owning.{certificate_in_range, kinds_on, kinds_past}
use Rattle.marks.proofs.mark_kinds.Goals as goal
use Rattle.marks.proofs.mark_kinds.Goals.{then-certificate-user, else-certificate-user}

pub loop-i-init : goal.loop-i-init
unfolding first_certificates
loop-i-init c = c.requires.1

pub bounds-own-from : goal.bounds-own-from
bounds-own-from c = omega (arith, ap (λ (x : Certificate). x.kind) c.certificate_at-certificate.ensures, (certificate_in_range c.args.state.now c.requires.0 c.loop-i.i (omega arith)).1)

pub loop-i-preserved : goal.loop-i-preserved
loop-i-preserved c =
    let rows = (decode c.args.state.now).rows in
    let next : List Bool → Type 0 = λ own. Own c.args.user own rows (first_certificates c.args.state.now (c.loop-i.i + 1)) in
    elim c.if-certificate-user.branch [
      | then-certificate-user w ↦ subst⁻¹ next w.own-is (kinds_on c.args.state.now c.loop-i.own c.args.user c.loop-i.i rows c.certificate_at-certificate.result c.certificate_at-certificate.ensures c.loop-i.invariant w.from.result c.requires.0 (omega arith) w.if-certificate-user.true w.from.ensures)
      | else-certificate-user w ↦ subst⁻¹ next w.own-is (kinds_past c.args.state.now c.loop-i.own c.args.user c.loop-i.i rows c.certificate_at-certificate.result c.certificate_at-certificate.ensures c.loop-i.invariant w.if-certificate-user.false)
    ]

pub returns : goal.returns
unfolding decode first_certificates
returns c = let e : c.loop-i.i ≡ certificate_count c.args.state.now = omega arith in subst (λ (n : ℕ). Own c.args.user c.loop-i.own (decode c.args.state.now).rows (first_certificates c.args.state.now n)) e c.loop-i.invariant

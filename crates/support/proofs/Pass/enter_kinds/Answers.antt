use mathlib.Core.Path.{ap}
use native.Mathlib.Omega.{arith}
use Rattle.model.specs.declared.Certificate.{Certificate}
use Rattle.marks.proofs.Owning.{certificate_in_range}
use Rattle.support.proofs.Entering.{entering_none, entering_all, entering_own, entering_other, certificate_inside}
use Rattle.support.proofs.Pass.enter_kinds.Goals as goal

pub loop-next-init : goal.loop-next-init
loop-next-init c = let pass = c.args.self.now in entering_none pass.in_range pass.certificates_queued c.requires c.first-next.ensures

pub bounds-own-from : goal.bounds-own-from
bounds-own-from c = let pass = c.args.self.now in
    let inside = certificate_inside pass.in_range pass.certificates_queued c.in-Some.is c.loop-next.invariant in
    omega (arith, c.from.ensures, ap (λ (x : Certificate). x.kind) c.certificate_at-certificate.ensures, (certificate_in_range pass.state.now pass.in_range c.in-Some.k inside).1)

pub loop-next-preserved-then-certificate-user : goal.loop-next-preserved-then-certificate-user
loop-next-preserved-then-certificate-user c = let pass = c.args.self.now in entering_own pass.in_range pass.certificates_queued c.in-Some.is c.loop-next.invariant c.behind-next.ensures c.certificate_at-certificate.ensures c.if-certificate-user.true c.from.ensures

pub loop-next-preserved : goal.loop-next-preserved
loop-next-preserved c = let pass = c.args.self.now in entering_other pass.in_range pass.certificates_queued c.in-Some.is c.loop-next.invariant c.behind-next.ensures c.certificate_at-certificate.ensures c.if-certificate-user.false

pub returns : goal.returns
returns c = let pass = c.args.self.now in entering_all pass.in_range pass.certificates_queued c.in_default.is c.loop-next.invariant

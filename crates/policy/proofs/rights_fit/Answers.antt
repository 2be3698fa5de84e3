use Rattle.std.proofs.Common.{rules, ap, ◌∙◌, ◌/◌, length}
use Rattle.model.specs.Lists.{all}
use borrow.Author.Tests.{tests}
use Rattle.std.specs.Simd.{first_chunks}
use Rattle.std.proofs.lemmas.Iterator.{YieldsList-from_slice}
use Rattle.model.proofs.Chains.{all_of_chain}
use Rattle.policy.specs.Fitting.{first_rights_fit, alone_fits}
use Rattle.model.proofs.InTurn.{second_judged, first-failed}
use Rattle.policy.proofs.Rights.{sixteens_and_rest}
use Rattle.policy.proofs.rights_fit.Goals as goal

pub returns-then-all : goal.returns-then-all
returns-then-all c =
    let rights = c.args.rights.now in
    let rest = c.as_chunks.result.1.now in
    second_judged _ _ (sixteens_and_rest rights rest c.as_chunks.ensures.back c.as_chunks.ensures.back_len)
    (all_of_chain (first_rights_fit 16) _ _ _ c.all.ensures.ran (YieldsList-from_slice (first_chunks 32 (length rights / 32) rights) cc) (λ x b q k. search (rules, tests)))
    c.if-all.true
    (c.each_fits.ensures ∙ ap (all alone_fits) c.as_chunks-2.ensures.front)

pub returns-else-all : goal.returns-else-all
returns-else-all c =
    let rights = c.args.rights.now in
    first-failed _ _ (sixteens_and_rest rights c.as_chunks.result.1.now c.as_chunks.ensures.back c.as_chunks.ensures.back_len)
    (all_of_chain (first_rights_fit 16) _ _ _ c.all.ensures.ran (YieldsList-from_slice (first_chunks 32 (length rights / 32) rights) cc) (λ x b q k. search (rules, tests)))
    c.if-all.false

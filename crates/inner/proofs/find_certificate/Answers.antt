use Rattle.std.proofs.Common.{ℕ, rules, refl, ap, ◌∙◌, position}
use borrow.Author.Tests.{tests}
use Rattle.model.specs.Layout.{decode, certificate_from, certificate_numbers}
use Rattle.model.specs.Sound.{same_certificate}
use Rattle.table.specs.Entries.{certificate_at, entries}
use Rattle.table.proofs.Passes.{place_of_entries}
use Rattle.inner.proofs.find_certificate.Goals as goal

pub returns : goal.returns
unfolding decode certificate_at
returns c =
    place_of_entries certificate_from 3 (certificate_numbers c.args.state.now) (same_certificate c.args.certificate) c.from-n.result _ _ _ c.position.ensures.ran refl (λ i b q k. search (rules, tests))
    ∙ ap (λ (n : ℕ). position (same_certificate c.args.certificate) (entries certificate_from 3 (certificate_numbers c.args.state.now) n)) c.from-n.ensures

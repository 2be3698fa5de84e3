use Rattle.std.proofs.Common.{ℕ, [], sym, ap, ◌∙◌}
use borrow.Author.Tests.{eq-eqb}
use Rattle.model.specs.Lists.{all_over_earlier}
use Rattle.model.specs.Layout.{decode}
use Rattle.model.specs.Sound.{certificate_sound}
use Rattle.table.specs.Entries.{first_certificates, kinds_only}
use Rattle.sound.proofs.certificates_sound.Goals as goal

pub returns-then-state-eq0 : goal.returns-then-state-eq0
unfolding first_certificates decode
returns-then-state-eq0 c = eq-eqb _ 0 c.if-state-eq0.true ∙ sym (ap (λ (n : ℕ). all_over_earlier (certificate_sound (kinds_only c.args.kinds.now)) [] (first_certificates c.args.state.now n)) c.if-state-eq0.true)

use Rattle.std.proofs.Common.{arith, sym, ◌∙◌}
use Rattle.inner.proofs.Codes.{sound_form, sound_range, sound-sized}
use Rattle.taking.proofs.Falls.{away-no-appointee, away-no-kind, away-no-appointer, away_none, exists, away_forbidden, away_done}
use Rattle.taking.proofs.take_away.Goals.{then-certificate-ge-USERS-via-then-certificate-ge-USERS, then-certificate-ge-USERS-via-else-certificate-ge-USERS+then-from-policy, then-certificate-ge-USERS-via-else-certificate-ge-USERS+else-from-policy+then-certificate-ge-USERS-2}
use Rattle.taking.proofs.take_away.Goals as goal

pub returns-then-certificate-ge-USERS : goal.returns-then-certificate-ge-USERS
returns-then-certificate-ge-USERS c =
    elim c.then-certificate-ge-USERS.branch [
      | then-certificate-ge-USERS-via-then-certificate-ge-USERS w ↦ away-no-appointee _ _ _ _ c.requires c.args.certificate c.args.allowed w.if-certificate-ge-USERS.true
      | then-certificate-ge-USERS-via-else-certificate-ge-USERS+then-from-policy w ↦ away-no-kind _ _ _ _ c.requires c.args.certificate c.args.allowed (omega (arith, w.from.ensures, w.if-from-policy.true))
      | then-certificate-ge-USERS-via-else-certificate-ge-USERS+else-from-policy+then-certificate-ge-USERS-2 w ↦ away-no-appointer _ _ _ _ c.requires c.args.certificate c.args.allowed w.if-certificate-ge-USERS-2.true
    ]

pub find_certificate-requires : goal.find_certificate-requires
find_certificate-requires c = sound-sized _ c.args.state.now c.requires

pub returns-in_default : goal.returns-in_default
returns-in_default c = away_none _ _ _ _ c.requires c.args.certificate c.args.allowed c.if-certificate-ge-USERS.false (omega (arith, c.from.ensures)) c.if-certificate-ge-USERS-2.false (sym c.in_default.is ∙ c.find_certificate.ensures)

pub returns-then-not-allowed : goal.returns-then-not-allowed
returns-then-not-allowed c =
    away_forbidden _ _ _ _ c.requires c.args.certificate c.args.allowed c.if-certificate-ge-USERS.false (omega (arith, c.from.ensures)) c.if-certificate-ge-USERS-2.false c.in-Some.j (sym c.in-Some.is ∙ c.find_certificate.ensures) c.if-not-allowed.true

pub take_certificate-requires : goal.take_certificate-requires
take_certificate-requires c = (
  sound_form _ c.args.state.now c.requires,
  sound_range _ c.args.state.now c.requires,
  exists _ _ _ _ c.requires c.args.certificate c.args.allowed c.if-certificate-ge-USERS.false (omega (arith, c.from.ensures)) c.if-certificate-ge-USERS-2.false c.in-Some.j (sym c.in-Some.is ∙ c.find_certificate.ensures),
)

pub returns : goal.returns
returns c =
    away_done _ _ _ _ c.requires c.args.certificate c.args.allowed c.if-certificate-ge-USERS.false (omega (arith, c.from.ensures)) c.if-certificate-ge-USERS-2.false c.in-Some.j (sym c.in-Some.is ∙ c.find_certificate.ensures) _ _ c.if-not-allowed.false c.take_certificate.ensures

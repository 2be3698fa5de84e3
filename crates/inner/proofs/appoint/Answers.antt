use Rattle.std.proofs.Common.{sym, ◌∙◌, arith}
use Rattle.inner.proofs.Codes.{sound_form, sound-sized}
use Rattle.inner.proofs.Appointing.{appoint-no-appointer, appoint-no-appointee, appoint-no-kind, appoint_not_in_role, appoint-stands, appoint_full, appoint_done}
use Rattle.inner.proofs.appoint.Goals.{then-appointer-ge-USERS-via-then-appointer-ge-USERS, then-appointer-ge-USERS-via-else-appointer-ge-USERS+then-appointee-ge-USERS, then-appointer-ge-USERS-via-else-appointer-ge-USERS+else-appointee-ge-USERS+then-from-policy}
use Rattle.inner.proofs.appoint.Goals as goal

pub returns-then-appointer-ge-USERS : goal.returns-then-appointer-ge-USERS
returns-then-appointer-ge-USERS c =
    elim c.then-appointer-ge-USERS.branch [
      | then-appointer-ge-USERS-via-then-appointer-ge-USERS w ↦ appoint-no-appointer _ _ _ _ c.requires _ _ _ w.if-appointer-ge-USERS.true
      | then-appointer-ge-USERS-via-else-appointer-ge-USERS+then-appointee-ge-USERS w ↦ appoint-no-appointee _ _ _ _ c.requires _ _ _ w.if-appointee-ge-USERS.true
      | then-appointer-ge-USERS-via-else-appointer-ge-USERS+else-appointee-ge-USERS+then-from-policy w ↦ appoint-no-kind _ _ _ _ c.requires _ _ _ (omega (arith, w.from.ensures, w.if-from-policy.true))
    ]

pub is_appointer-requires : goal.is_appointer-requires
is_appointer-requires c = sound-sized _ c.args.state.now c.requires

pub returns-then-not-is_appointer : goal.returns-then-not-is_appointer
returns-then-not-is_appointer c =
    appoint_not_in_role _ _ _ _ c.requires _ _ _ c.if-appointer-ge-USERS.false c.if-appointee-ge-USERS.false (omega (arith, c.from.ensures)) (sym c.is_appointer.ensures ∙ c.if-not-is_appointer.true)

pub find_certificate-requires : goal.find_certificate-requires
find_certificate-requires c = sound-sized _ c.args.state.now c.requires

pub returns-then-is_some : goal.returns-then-is_some
returns-then-is_some c =
    appoint-stands _ _ _ _ c.requires _ _ _ c.if-appointer-ge-USERS.false c.if-appointee-ge-USERS.false (omega (arith, c.from.ensures)) (sym c.is_appointer.ensures ∙ c.if-not-is_appointer.false)
    c.find_certificate.ensures (sym c.is_some.ensures ∙ c.if-is_some.true)

pub bounds-state-833 : goal.bounds-state-833
bounds-state-833 c = omega (arith, (sound-sized _ c.args.state.now c.requires).size)

pub returns-then-from-ge-MOST_CERTIFICATES : goal.returns-then-from-ge-MOST_CERTIFICATES
returns-then-from-ge-MOST_CERTIFICATES c =
    appoint_full _ _ _ _ c.requires _ _ _ c.if-appointer-ge-USERS.false c.if-appointee-ge-USERS.false (omega (arith, c.from.ensures)) (sym c.is_appointer.ensures ∙ c.if-not-is_appointer.false)
    c.find_certificate.ensures (sym c.is_some.ensures ∙ c.if-is_some.false) (omega (arith, c.from-2.ensures))

pub append_certificate-requires : goal.append_certificate-requires
append_certificate-requires c = (sound_form _ c.args.state.now c.requires, omega (arith, c.from-2.ensures))

pub returns : goal.returns
returns c =
    appoint_done _ _ _ _ c.requires _ _ _ c.if-appointer-ge-USERS.false c.if-appointee-ge-USERS.false (omega (arith, c.from.ensures)) (sym c.is_appointer.ensures ∙ c.if-not-is_appointer.false)
    c.find_certificate.ensures (sym c.is_some.ensures ∙ c.if-is_some.false) _ (omega (arith, c.from-2.ensures)) c.append_certificate.ensures

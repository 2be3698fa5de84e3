use Rattle.inner.proofs.Codes.{sound-sized}
use Rattle.taking.proofs.Falls.{revoke-out, revoked}
use Rattle.taking.proofs.revoke.Goals as goal

pub returns-then-caller-ge-USERS : goal.returns-then-caller-ge-USERS
returns-then-caller-ge-USERS c = revoke-out _ _ _ _ c.requires c.args.caller _ _ _ c.if-caller-ge-USERS.true

pub may_revoke-allowed-requires : goal.may_revoke-allowed-requires
may_revoke-allowed-requires c = sound-sized _ c.args.state.now c.requires

pub returns : goal.returns
returns c = revoked _ _ _ _ c.requires _ _ _ _ _ c.args.caller c.may_revoke-allowed.result c.if-caller-ge-USERS.false c.may_revoke-allowed.ensures c.take_away.ensures

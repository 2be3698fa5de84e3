use Rattle.inner.proofs.Codes.{sound_form}
use Rattle.taking.proofs.Falls.{logout-out, logout_done}
use Rattle.taking.proofs.logout.Goals as goal

pub returns-then-user-ge-USERS : goal.returns-then-user-ge-USERS
returns-then-user-ge-USERS c = logout-out _ _ _ _ c.requires c.args.user c.if-user-ge-USERS.true

pub drop_user-requires : goal.drop_user-requires
drop_user-requires c = sound_form _ c.args.state.now c.requires

pub returns : goal.returns
returns c = logout_done _ _ _ _ c.requires c.args.user _ _ c.if-user-ge-USERS.false c.drop_user.ensures

use Rattle.inner.proofs.Codes.{sound-sized}
use Rattle.direct.proofs.Having.{sound-rights}
use Rattle.query.proofs.Invoking.{invoke-no-user, invoke-no-privilege, invoke-told}
use Rattle.query.proofs.invoke.Goals.{then-user-ge-USERS-via-then-user-ge-USERS, then-user-ge-USERS-via-else-user-ge-USERS+then-privilege-ge-PRIVILEGES}
use Rattle.query.proofs.invoke.Goals as goal

pub returns-then-user-ge-USERS : goal.returns-then-user-ge-USERS
returns-then-user-ge-USERS c =
    elim c.then-user-ge-USERS.branch [
      | then-user-ge-USERS-via-then-user-ge-USERS w ↦ invoke-no-user _ _ _ _ c.requires _ _ w.if-user-ge-USERS.true
      | then-user-ge-USERS-via-else-user-ge-USERS+then-privilege-ge-PRIVILEGES w ↦ invoke-no-privilege _ _ _ _ c.requires _ _ w.if-privilege-ge-PRIVILEGES.true
    ]

pub may_invoke-requires : goal.may_invoke-requires
may_invoke-requires c = (sound-sized _ c.args.state.now c.requires, sound-rights _ _ _ _ c.requires)

pub returns : goal.returns
returns c = invoke-told _ _ _ _ c.requires c.args.user c.args.privilege _ _ c.if-user-ge-USERS.false c.if-privilege-ge-PRIVILEGES.false c.told.ensures c.may_invoke.ensures

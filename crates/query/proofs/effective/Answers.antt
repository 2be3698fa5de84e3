use Rattle.std.proofs.Common.{arith, sym, ap, ◌∙◌}
use Rattle.table.specs.Entries.{without_rights}
use Rattle.inner.proofs.Codes.{sound-sized}
use Rattle.direct.proofs.Having.{sound-rights}
use Rattle.query.specs.Reached.{reached_in}
use Rattle.query.proofs.Reaching.{ready, alone_closed, alone_tells}
use Rattle.query.proofs.Telling.{effective-no-user, effective-no-role, effective-no-privilege, effective_inactive, effective-told}
use Rattle.query.proofs.effective.Goals.{then-user-ge-USERS-via-then-user-ge-USERS, then-user-ge-USERS-via-else-user-ge-USERS+then-role-ge-ROLES, then-user-ge-USERS-via-else-user-ge-USERS+else-role-ge-ROLES+then-privilege-ge-PRIVILEGES}
use Rattle.query.proofs.effective.Goals as goal

pub returns-then-user-ge-USERS : goal.returns-then-user-ge-USERS
returns-then-user-ge-USERS c =
    elim c.then-user-ge-USERS.branch [
      | then-user-ge-USERS-via-then-user-ge-USERS w ↦ effective-no-user _ _ _ _ c.requires _ _ _ w.if-user-ge-USERS.true
      | then-user-ge-USERS-via-else-user-ge-USERS+then-role-ge-ROLES w ↦ effective-no-role _ _ _ _ c.requires _ _ _ w.if-role-ge-ROLES.true
      | then-user-ge-USERS-via-else-user-ge-USERS+else-role-ge-ROLES+then-privilege-ge-PRIVILEGES w ↦ effective-no-privilege _ _ _ _ c.requires _ _ _ w.if-privilege-ge-PRIVILEGES.true
    ]

pub bounds-state-64 : goal.bounds-state-64
bounds-state-64 c = omega (arith, (sound-sized _ c.args.state.now c.requires).size)

pub is_active-requires : goal.is_active-requires
is_active-requires c = let z = sound-sized _ c.args.state.now c.requires in (z.size, omega (arith, z.rows, c.from-n.ensures))

pub returns-then-not-is_active : goal.returns-then-not-is_active
returns-then-not-is_active c =
    effective_inactive _ _ _ _ c.requires c.args.user c.args.role c.args.privilege c.if-user-ge-USERS.false c.if-role-ge-ROLES.false c.if-privilege-ge-PRIVILEGES.false c.from-n.result c.from-n.ensures (sym c.is_active.ensures ∙ c.if-not-is_active.true)

pub roles_having-having-requires : goal.roles_having-having-requires
roles_having-having-requires c = sound-rights _ _ _ _ c.requires

pub invariant_of-asking : goal.invariant_of-asking
invariant_of-asking c = record { ready = ready _ _ c.roles_having-having.result c.args.state.now c.args.user c.requires }

pub roles_reach-requires : goal.roles_reach-requires
roles_reach-requires c = (omega (arith, c.from-n.ensures), alone_closed c.from.result (omega (arith, c.from.ensures, c.if-role-ge-ROLES.false)) c.args.policy.kinds.now)

pub returns : goal.returns
returns c =
    effective-told _ _ _ _ c.requires c.args.user c.args.role c.args.privilege c.if-user-ge-USERS.false c.if-role-ge-ROLES.false c.if-privilege-ge-PRIVILEGES.false c.from-n.result c.from-n.ensures
    c.told.result c.roles_reach.result c.roles_having-having.result c.roles_having-having.ensures (sym c.is_active.ensures ∙ c.if-not-is_active.false) c.told.ensures
    (alone_tells c.from.result (omega (arith, c.from.ensures, c.if-role-ge-ROLES.false)) (without_rights c.args.policy.rules.now c.args.policy.kinds.now) c.roles_having-having.result c.args.state.now c.args.user c.from-n.result c.roles_reach.result c.roles_reach.ensures
    ∙ ap (reached_in (without_rights c.args.policy.rules.now c.args.policy.kinds.now) c.roles_having-having.result c.args.state.now c.args.user c.from-n.result) c.from.ensures)

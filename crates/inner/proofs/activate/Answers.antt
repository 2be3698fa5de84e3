use Rattle.std.proofs.Common.{refl, arith}
use Rattle.inner.proofs.Codes.{sound_form, sound-sized, sound_range}
use Rattle.inner.proofs.Activation.{activate-no-user, activate-no-role, activate-active, told_by_marks, lowest_own, activate-no-rule, rule_fits_16, activate_full, activate_done}
use Rattle.inner.proofs.activate.Goals.{then-user-ge-USERS-via-then-user-ge-USERS, then-user-ge-USERS-via-else-user-ge-USERS+then-role-ge-ROLES}
use Rattle.inner.proofs.activate.Goals as goal

pub returns-then-user-ge-USERS : goal.returns-then-user-ge-USERS
returns-then-user-ge-USERS c =
    elim c.then-user-ge-USERS.branch [
      | then-user-ge-USERS-via-then-user-ge-USERS w ↦ activate-no-user _ _ _ _ c.requires _ _ w.if-user-ge-USERS.true
      | then-user-ge-USERS-via-else-user-ge-USERS+then-role-ge-ROLES w ↦ activate-no-role _ _ _ _ c.requires _ _ w.if-role-ge-ROLES.true
    ]

pub mark_roles-requires : goal.mark_roles-requires
mark_roles-requires c = (sound_range _ c.args.state.now c.requires, refl)

pub returns-then-role_marked : goal.returns-then-role_marked
returns-then-role_marked c =
    activate-active _ _ _ _ c.requires _ _ c.if-user-ge-USERS.false c.if-role-ge-ROLES.false
    (told_by_marks c.mark_roles.ensures c.if-role-ge-ROLES.false c.role_marked.ensures c.if-role_marked.true)

pub mark_kinds-requires : goal.mark_kinds-requires
mark_kinds-requires c = (sound_range _ c.args.state.now c.requires, c.mark_roles.ensures)

pub lowest_satisfied-requires : goal.lowest_satisfied-requires
lowest_satisfied-requires c = sound-sized _ c.args.state.now c.requires

pub returns-in_default : goal.returns-in_default
returns-in_default c =
    activate-no-rule _ _ _ _ c.requires _ _ c.if-user-ge-USERS.false c.if-role-ge-ROLES.false
    (told_by_marks c.mark_roles.ensures c.if-role-ge-ROLES.false c.role_marked.ensures c.if-role_marked.false)
    (lowest_own _ _ _ _ _ c.mark_kinds.ensures c.in_default.is c.lowest_satisfied.ensures)

pub bounds-state-64 : goal.bounds-state-64
bounds-state-64 c = omega (arith, (sound-sized _ c.args.state.now c.requires).size)

pub returns-then-from-ge-MOST_ROWS : goal.returns-then-from-ge-MOST_ROWS
returns-then-from-ge-MOST_ROWS c =
    activate_full _ _ _ _ c.requires _ _ c.if-user-ge-USERS.false c.if-role-ge-ROLES.false
    (told_by_marks c.mark_roles.ensures c.if-role-ge-ROLES.false c.role_marked.ensures c.if-role_marked.false)
    c.in-Some.i
    (lowest_own _ _ _ _ _ c.mark_kinds.ensures c.in-Some.is c.lowest_satisfied.ensures)
    (omega (arith, c.from.ensures))

pub overflow_cast-rule : goal.overflow_cast-rule
overflow_cast-rule c =
    omega (
      arith,
      rule_fits_16 _ _ _ _ c.requires _ _ c.if-user-ge-USERS.false c.if-role-ge-ROLES.false
          (told_by_marks c.mark_roles.ensures c.if-role-ge-ROLES.false c.role_marked.ensures c.if-role_marked.false)
          c.in-Some.i
          (lowest_own _ _ _ _ _ c.mark_kinds.ensures c.in-Some.is c.lowest_satisfied.ensures),
    )

pub append_row-requires : goal.append_row-requires
append_row-requires c = (sound_form _ c.args.state.now c.requires, omega (arith, c.from.ensures))

pub returns : goal.returns
returns c =
    activate_done _ _ _ _ c.requires _ _ c.if-user-ge-USERS.false c.if-role-ge-ROLES.false
    (told_by_marks c.mark_roles.ensures c.if-role-ge-ROLES.false c.role_marked.ensures c.if-role_marked.false)
    c.in-Some.i
    (lowest_own _ _ _ _ _ c.mark_kinds.ensures c.in-Some.is c.lowest_satisfied.ensures)
    _ (omega (arith, c.from.ensures)) c.append_row.ensures

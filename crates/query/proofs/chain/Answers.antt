use mathlib.Core.Path.{subst⁻¹}
use lib.ListN.{set}
use Rattle.std.proofs.Common.{◌≡◌, ◌+◌, suc, not, ap, ◌∙◌, arith}
use Rattle.model.specs.declared.Row.{Row}
use Rattle.inner.proofs.Codes.{sound-sized}
use Rattle.rests.proofs.Newest.{newest-active, newest_some}
use Rattle.query.proofs.Listing.{chain-no-user, chain-no-role, chain-no-list, chain_inactive, chain-written}
use Rattle.query.proofs.Walk.{Walking, reach, none_newest, some_newest, row_within, walk-begins, walk-steps, walk-over, walk-short, few, stands}
use Rattle.query.proofs.chain.Goals.{then-user-ge-USERS-via-then-user-ge-USERS, then-user-ge-USERS-via-else-user-ge-USERS+then-role-ge-ROLES, then-user-ge-USERS-via-else-user-ge-USERS+else-role-ge-ROLES+then-not-fits}
use Rattle.query.proofs.chain.Goals as goal

pub returns-then-user-ge-USERS : goal.returns-then-user-ge-USERS
returns-then-user-ge-USERS c =
    elim c.then-user-ge-USERS.branch [
      | then-user-ge-USERS-via-then-user-ge-USERS w ↦ chain-no-user _ _ _ _ _ c.requires _ _ w.if-user-ge-USERS.true
      | then-user-ge-USERS-via-else-user-ge-USERS+then-role-ge-ROLES w ↦ chain-no-role _ _ _ _ _ c.requires _ _ w.if-role-ge-ROLES.true
      | then-user-ge-USERS-via-else-user-ge-USERS+else-role-ge-ROLES+then-not-fits w ↦ chain-no-list _ _ _ _ _ c.requires _ _ w.if-not-fits.true
    ]

pub bounds-state-64 : goal.bounds-state-64
bounds-state-64 c = omega (arith, (sound-sized _ c.args.state.now c.requires).size)

pub newest_row-next-requires : goal.newest_row-next-requires
newest_row-next-requires c = let z = sound-sized _ c.args.state.now c.requires in (z.size, omega (arith, z.rows, c.from.ensures))

pub returns-then-is_none : goal.returns-then-is_none
returns-then-is_none c =
    chain_inactive _ _ _ _ _ c.requires c.args.user c.args.role c.if-user-ge-USERS.false c.if-role-ge-ROLES.false c.if-not-fits.false c.from.result c.from.ensures
    (newest-active c.args.state.now c.args.user c.args.role c.from.result (none_newest _ _ c.newest_row-next.ensures (c.is_none.ensures ∙ ap not c.if-is_none.true)))

pub loop-next-init : goal.loop-next-init
loop-next-init c = walk-begins c.requires c.from.ensures c.newest_row-next.ensures (some_newest _ _ c.newest_row-next.ensures (c.is_none.ensures ∙ ap not c.if-is_none.false)) c.if-role-ge-ROLES.false c.if-not-fits.false

pub row_at-requires : goal.row_at-requires
row_at-requires c = ((sound-sized _ _ c.requires).size, stands c.requires c.in-Some.is c.loop-next.invariant)

pub bounds-list-n : goal.bounds-list-n
bounds-list-n c = omega (arith, c.loop-next.invariant.size, few c.requires c.in-Some.is c.loop-next.invariant)

pub row_below-next-requires : goal.row_below-next-requires
row_below-next-requires c = ((sound-sized _ _ c.requires).size, stands c.requires c.in-Some.is c.loop-next.invariant)

pub loop-next-smaller : goal.loop-next-smaller
loop-next-smaller c =
    let from : reach c.loop-next.next ≡ suc c.in-Some.k = ap reach c.in-Some.is in
    omega (arith, row_within _ _ _ c.in-Some.k _ c.row_below-next.ensures)

pub loop-next-preserved : goal.loop-next-preserved
loop-next-preserved c =
    let policy = c.args.policy in
    subst⁻¹ (λ (r : Row). Walking policy.rules.now policy.kinds.now policy.rights.now c.args.state.now c.args.user c.args.role (set c.loop-next.list c.loop-next.n r.role) (c.loop-next.n + 1) c.row_below-next.result) c.row_at.ensures
    (walk-steps c.requires c.in-Some.is c.loop-next.invariant c.row_below-next.ensures)

pub zero-requires : goal.zero-requires
zero-requires c = (walk-short c.requires c.loop-next.invariant, omega (arith, c.loop-next.invariant.size))

pub returns : goal.returns
returns c =
    chain-written _ _ _ _ _ c.requires c.args.user c.args.role c.if-user-ge-USERS.false c.if-role-ge-ROLES.false c.if-not-fits.false c.from.result c.from.ensures c.loop-next.list _ c.loop-next.n
    (newest_some _ _ _ _ (some_newest _ _ c.newest_row-next.ensures (c.is_none.ensures ∙ ap not c.if-is_none.false)))
    (walk-short c.requires c.loop-next.invariant) c.loop-next.invariant.size (walk-over c.requires c.in_default.is c.loop-next.invariant) c.zero.ensures

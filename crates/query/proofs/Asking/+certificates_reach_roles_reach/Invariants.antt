-- Two functions that call each other: roles go down the rows, and hand over where a row names a kind that has not asked. The measure is
-- twice the place, and one more for certificates, which hand back at the same place. The invariants: what the marks tell of the rows left
-- is what they told at first of all k; and the conditions passed have asked, and nothing else was marked.
use Rattle.std.proofs.Common.{ℕ, Bool, false, ◌+◌, ◌*◌, ◌<◌, get_or}
use Rattle.table.specs.Entries.{without_rights}
use Rattle.rests.specs.Asked.{HasAsked, AskedThrough, Grown}
use Rattle.query.specs.Reached.{Tells}
use Rattle.query.proofs.Asking.+certificates_reach_roles_reach.Given as goal

abbrev pub decreases-certificates_reach : goal.decreases-certificates_reach
decreases-certificates_reach l = l.k * 2 + 1

abbrev pub decreases-roles_reach : goal.decreases-roles_reach
decreases-roles_reach l = l.k * 2

abbrev pub invariant-certificates_reach-loop-number : goal.invariant-certificates_reach-loop-number
invariant-certificates_reach-loop-number l =
    Grown l.self.policy.kinds.now l.initial.asked l.asked l.number-items l.number-index × ((j : ℕ) → j < l.number-index → HasAsked l.self.policy.kinds.now l.asked (get_or l.number-items j 0))

abbrev pub invariant-roles_reach-loop-i : goal.invariant-roles_reach-loop-i
invariant-roles_reach-loop-i l = record {
  closed : AskedThrough l.self.policy.kinds.now l.asked;
  told : (r : Bool) → Tells (without_rights l.self.policy.rules.now l.self.policy.kinds.now) l.self.having.now l.self.state.now l.self.user l.asked l.i false r → Tells (without_rights l.self.policy.rules.now l.self.policy.kinds.now) l.self.having.now l.self.state.now l.self.user l.initial.asked l.k false r;
}

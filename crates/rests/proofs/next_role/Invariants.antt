-- The invariant: the conditions passed ask for no role.
use Rattle.std.proofs.Common.{ℕ, ◌≡◌, [], take}
use Rattle.model.specs.Lists.{joined}
use Rattle.model.specs.Layout.{policy_of}
use Rattle.model.specs.Conditions.{meant, roles_asked}
use Rattle.table.specs.Entries.{without_rights}
use Rattle.rests.proofs.next_role.Given as goal

abbrev pub invariant-loop-number : goal.invariant-loop-number
invariant-loop-number l = joined (λ (c : ℕ). roles_asked (policy_of (without_rights [] l.policy.kinds.now)) (meant c)) (take l.number-index l.number-items) ≡ []

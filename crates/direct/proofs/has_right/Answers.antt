use Prim.Native.Nat.{ℕ}
use mathlib.Core.Path.{sym, ap, ◌∙◌}
use mathlib.Core.Bool.{Bool, false, ◌&&◌}
use borrow.Author.Tests.{lt-ltb, le-ltb}
use lib.ListN.{get_or}
use Rattle.direct.specs.Having.{holds_right}
use Rattle.direct.proofs.has_right.Goals as goal

pub returns-then-role-lt-ROLES : goal.returns-then-role-lt-ROLES
unfolding holds_right
returns-then-role-lt-ROLES c = ap (λ (n : ℕ). get_or c.args.having.now n false) c.from.ensures ∙ sym (ap (λ (b : Bool). b && get_or c.args.having.now c.args.role false) (lt-ltb _ _ c.if-role-lt-ROLES.true))

pub returns-else-role-lt-ROLES : goal.returns-else-role-lt-ROLES
unfolding holds_right
returns-else-role-lt-ROLES c = le-ltb _ _ c.if-role-lt-ROLES.false ∙ sym (ap (λ (b : Bool). b && get_or c.args.having.now c.args.role false) (le-ltb _ _ c.if-role-lt-ROLES.false))

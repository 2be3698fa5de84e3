-- Holding by marks: what code reads of it. That it is holding where they are a user's own marks is in Owning.
use Prim.Native.Nat.{ℕ, ◌+◌}
use mathlib.Core.Path.{◌≡◌, refl, sym, ap, ◌∙◌}
use mathlib.Core.Bool.{Bool, true, false, ◌&&◌}
use mathlib.Core.List.{List, []}
use lib.Dec.{eqb}
use lib.ListN.{get_or}
use Rattle.model.specs.Lists.{all}
use Rattle.model.specs.Values.{Policy, State, world_of}
use Rattle.model.specs.Layout.{policy_of, decode}
use Rattle.model.specs.Conditions.{Condition, role, kind, fact, malformed, meant, activating, membership, prerequisite_roles, rule_numbered, no_kind}
use Rattle.model.specs.declared.Rule.{Rule}
use Rattle.model.specs.declared.Kind.{Kind}
use Rattle.model.specs.declared.Row.{Row}
use Rattle.table.specs.Entries.{without_rights, world_at}
use Rattle.marks.specs.Marked.{role_marked, holds_by, all_hold_by, supported_by, satisfied_by}

-- ── what is not read: of the policy, only the kinds ──

by_same : (marked : ℕ → Bool) (p₁ p₂ : Policy) (t : State) → p₁.kinds ≡ p₂.kinds → (c : Condition) → holds_by marked (world_of p₁ t) c ≡ holds_by marked (world_of p₂ t) c
unfolding holds_by
by_same marked p₁ p₂ t e (role q) = refl
by_same marked p₁ p₂ t e (kind k) = ap (λ (ks : List Kind). marked (256 + k) && all (role_marked marked) (prerequisite_roles (get_or ks k no_kind))) e
by_same marked p₁ p₂ t e (fact f) = refl
by_same marked p₁ p₂ t e malformed = refl

module _ (marked : ℕ → Bool) (rules kinds s : List ℕ) where
  any-rules : (cs : List ℕ) → all_hold_by marked (world_at [] kinds s) cs ≡ all_hold_by marked (world_at rules kinds s) cs
  unfolding policy_of
  any-rules cs = λ i. all (λ (c : ℕ). by_same marked (policy_of (without_rights [] kinds)) (policy_of (without_rights rules kinds)) (decode s) refl (meant c) i) cs

  -- the membership conditions of a row's own rule, judged by the kinds alone
  pub membership_by : (row : Row) (rule : Rule) (r : Bool) → rule ≡ rule_numbered (policy_of (without_rights rules [])) row.rule → r ≡ all_hold_by marked (world_at [] kinds s) (membership rule) → r ≡ supported_by marked (world_at rules kinds s) row
  unfolding supported_by policy_of
  membership_by row rule r e h = h ∙ any-rules (membership rule) ∙ ap (λ (x : Rule). all_hold_by marked (world_at rules kinds s) (membership x)) e

  -- a rule for another role is not satisfied, and one for the role is if its conditions hold
  pub another_by : (q : ℕ) (rule read : Rule) → read ≡ rule → eqb read.target q ≡ false → false ≡ satisfied_by marked (world_at rules kinds s) q rule
  unfolding satisfied_by
  another_by q rule read e h = sym (ap (λ (x : Rule). eqb x.target q && all_hold_by marked (world_at rules kinds s) (activating x)) (sym e) ∙ ap (λ (b : Bool). b && all_hold_by marked (world_at rules kinds s) (activating read)) h)

  pub rule_by : (q : ℕ) (rule read : Rule) (r : Bool) → read ≡ rule → eqb read.target q ≡ true → r ≡ all_hold_by marked (world_at [] kinds s) (activating read) → r ≡ satisfied_by marked (world_at rules kinds s) q rule
  unfolding satisfied_by
  rule_by q rule read r e h k =
      k
      ∙ any-rules (activating read)
      ∙ ap (λ (b : Bool). b && all_hold_by marked (world_at rules kinds s) (activating read)) (sym h)
      ∙ ap (λ (x : Rule). eqb x.target q && all_hold_by marked (world_at rules kinds s) (activating x)) e

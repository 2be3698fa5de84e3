-- What a condition does not look at: holding reads the kinds and no other table of the policy.
use Prim.Native.Nat.{ℕ}
use mathlib.Core.Path.{◌≡◌, refl, ap}
use mathlib.Core.Bool.{◌&&◌}
use mathlib.Core.List.{List}
use lib.ListN.{get_or}
use lib.Dec.{eqb}
use Rattle.model.specs.Lists.{all}
use Rattle.model.specs.Values.{Policy, State, world_of}
use Rattle.model.specs.Conditions.{Condition, role, kind, fact, malformed, meant, prerequisite_roles, no_kind, no_rule, membership, activating, active, supported, satisfied, some_stands, holds}
use Rattle.model.specs.declared.Row.{Row}
use Rattle.model.specs.declared.Kind.{Kind}

holds_same : (p₁ p₂ : Policy) (t : State) → p₁.kinds ≡ p₂.kinds → (rows : List Row) (u : ℕ) (c : Condition) → holds (world_of p₁ t) rows u c ≡ holds (world_of p₂ t) rows u c
unfolding holds
holds_same p₁ p₂ t e rows u (role q) = refl
holds_same p₁ p₂ t e rows u (kind k) = ap (λ (ks : List Kind). some_stands t.certificates u k && all (active rows u) (prerequisite_roles (get_or ks k no_kind))) e
holds_same p₁ p₂ t e rows u (fact f) = refl
holds_same p₁ p₂ t e rows u malformed = refl

-- ── rights are not read ──

pub supported-same : (p₁ p₂ : Policy) (t : State) → p₁.rules ≡ p₂.rules → p₁.kinds ≡ p₂.kinds → supported (world_of p₁ t) ≡ supported (world_of p₂ t)
unfolding supported
supported-same p₁ p₂ t a b = λ i rows r. all (λ (c : ℕ). holds_same p₁ p₂ t b rows r.user (meant c) i) (membership (get_or (a i) r.rule no_rule))

pub satisfied-same : (p₁ p₂ : Policy) (t : State) → p₁.kinds ≡ p₂.kinds → satisfied (world_of p₁ t) ≡ satisfied (world_of p₂ t)
unfolding satisfied
satisfied-same p₁ p₂ t b = λ i rows u q r. eqb r.target q && all (λ (c : ℕ). holds_same p₁ p₂ t b rows u (meant c) i) (activating r)

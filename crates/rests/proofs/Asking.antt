-- What a condition asks for and which conditions are a row's own: what code reads is the model's.
use Prim.Native.Nat.{ℕ, ◌+◌, ◌-◌, ◌<◌}
use native.Mathlib.Omega.{arith}
use Rattle.model.proofs.Meaning.{meant-kind}
use mathlib.Core.Path.{◌≡◌, refl, sym, ap, ◌∙◌}
use mathlib.Core.Logic.{◌⊎◌, inl, inr}
use mathlib.Core.List.{List, [], ◌∷◌}
use lib.ListN.{get_or}
use Rattle.model.specs.Values.{Policy}
use Rattle.model.specs.Layout.{policy_of}
use Rattle.model.specs.Conditions.{Condition, role, kind, fact, malformed, meant, prerequisite_roles, kind_numbered, no_kind, roles_asked}
use Rattle.model.specs.Meant.{condition_of}
use Rattle.model.specs.declared.Condition.{Condition as Code}
use Rattle.model.specs.declared.Condition.TheVariants.{Fact, Malformed}
use Rattle.model.specs.declared.Kind.{Kind}
use Rattle.table.specs.Entries.{without_rights}

-- ── what a condition asks for ──

module _ (kinds : List ℕ) (c : ℕ) where
  pub asked-role : (q : ℕ) → role q ≡ meant c → q ∷ [] ≡ roles_asked (policy_of (without_rights [] kinds)) (meant c)
  unfolding roles_asked
  asked-role q e = ap (roles_asked (policy_of (without_rights [] kinds))) e

  pub asked-kind : (k : ℕ) → kind k ≡ meant c → prerequisite_roles (kind_numbered (policy_of (without_rights [] kinds)) k) ≡ roles_asked (policy_of (without_rights [] kinds)) (meant c)
  unfolding roles_asked
  asked-kind k e = ap (roles_asked (policy_of (without_rights [] kinds))) e

  pub asked-fact : (f : ℕ) → fact f ≡ meant c → [] ≡ roles_asked (policy_of (without_rights [] kinds)) (meant c)
  unfolding roles_asked
  asked-fact f e = ap (roles_asked (policy_of (without_rights [] kinds))) e

  pub asked-nothing : malformed ≡ meant c → [] ≡ roles_asked (policy_of (without_rights [] kinds)) (meant c)
  unfolding roles_asked
  asked-nothing e = ap (roles_asked (policy_of (without_rights [] kinds))) e

  -- what code makes of a number that is neither a role's nor a kind's
  pub asked-none : (made : Code) → condition_of made ≡ meant c → ((f : ℕ) × (made ≡ Fact f)) ⊎ (made ≡ Malformed) → [] ≡ roles_asked (policy_of (without_rights [] kinds)) (meant c)
  asked-none made e (inl h) = asked-fact h.0 (sym (ap condition_of h.1) ∙ e)
  asked-none made e (inr h) = asked-nothing (sym (ap condition_of h) ∙ e)

-- a kind by its own number
pub kind-meant : (k : ℕ) → k < 128 → kind k ≡ meant (256 + k)
kind-meant k h = let e : 256 + k - 256 ≡ k = omega arith in sym (meant-kind (256 + k) (omega arith) (omega arith) ∙ ap kind e)

-- ── a condition names kinds and nothing else of the policy ──

pub roles-same : (p₁ p₂ : Policy) → p₁.kinds ≡ p₂.kinds → (c : Condition) → roles_asked p₁ c ≡ roles_asked p₂ c
unfolding roles_asked
roles-same p₁ p₂ e (role q) = refl
roles-same p₁ p₂ e (kind k) = ap (λ (ks : List Kind). prerequisite_roles (get_or ks k no_kind)) e
roles-same p₁ p₂ e (fact f) = refl
roles-same p₁ p₂ e malformed = refl

-- What soundness of rules does not look at: of the policy, a rule names kinds alone.
use Prim.Native.Nat.{ℕ}
use mathlib.Core.Path.{◌≡◌, refl, ap}
use mathlib.Core.List.{List, [], ◌∷◌}
use lib.Dec.{ltb, leb}
use lib.ListN.{length, drop}
use Rattle.model.specs.Lists.{every, all, is_zero}
use Rattle.model.specs.Limits.{roles, most_conditions}
use Rattle.model.specs.Values.{Policy}
use Rattle.model.specs.Conditions.{Condition, role, kind, fact, malformed, meant, activating}
use Rattle.model.specs.Sound.{condition_fits, rule_clauses, rule_fits}
use Rattle.model.specs.declared.Rule.{Rule}
use Rattle.model.specs.declared.Kind.{Kind}

module _ (p₁ p₂ : Policy) (kinds : p₁.kinds ≡ p₂.kinds) where
  condition_fits_same : (c : Condition) → condition_fits p₁ c ≡ condition_fits p₂ c
  unfolding condition_fits
  condition_fits_same (role q) = refl
  condition_fits_same (kind k) = ap (λ (ks : List Kind). ltb k (length ks)) kinds
  condition_fits_same (fact f) = refl
  condition_fits_same malformed = refl

  rule_clauses_same : (r : Rule) → rule_clauses p₁ r ≡ rule_clauses p₂ r
  unfolding rule_clauses
  rule_clauses_same r = λ i. ltb r.target roles ∷ leb r.m r.n ∷ leb r.n most_conditions ∷ all (λ (c : ℕ). condition_fits_same (meant c) i) (activating r) ∷ all is_zero (drop r.n r.conditions) ∷ []

  pub rules_fit_same : (rules : List Rule) → all (rule_fits p₁) rules ≡ all (rule_fits p₂) rules
  rules_fit_same rules = λ i. all (λ (r : Rule). every (rule_clauses_same r i)) rules

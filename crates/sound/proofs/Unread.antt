-- What soundness of a state does not look at: a certificate names kinds, a row names kinds and a rule, and neither names a right.
use Prim.Native.Nat.{ℕ}
use mathlib.Core.Path.{◌≡◌, refl, ap}
use mathlib.Core.Bool.{Bool, not, ◌&&◌}
use mathlib.Core.List.{List, [], ◌∷◌}
use lib.Dec.{eqb, ltb}
use lib.ListN.{length, get_or}
use Rattle.model.specs.Lists.{every, any, all_over_earlier}
use Rattle.model.specs.Limits.{users, roles}
use Rattle.model.specs.Values.{Tables, Policy, State, world_of}
use Rattle.model.specs.Layout.{policy_of, decode}
use Rattle.model.specs.Conditions.{no_rule, active}
use Rattle.model.specs.Sound.{same_certificate, certificate_clauses, certificate_sound, row_clauses, row_sound, well_formed, sound_values, sound}
use Rattle.model.specs.declared.Row.{Row}
use Rattle.model.specs.declared.Certificate.{Certificate}
use Rattle.table.specs.Entries.{without_rights, kinds_only, world_at}
use Rattle.table.proofs.Worlds.{supported-same}

module _ (p₁ p₂ : Policy) (kinds : p₁.kinds ≡ p₂.kinds) where
  certificate_clauses_same : (earlier : List Certificate) (c : Certificate) → certificate_clauses p₁ earlier c ≡ certificate_clauses p₂ earlier c
  unfolding certificate_clauses
  certificate_clauses_same earlier c = λ i. ltb c.appointee users ∷ ltb c.kind (length (kinds i)) ∷ ltb c.appointer users ∷ not (any (same_certificate c) earlier) ∷ []

  pub certificates-same : (cs : List Certificate) → all_over_earlier (certificate_sound p₁) [] cs ≡ all_over_earlier (certificate_sound p₂) [] cs
  certificates-same cs = λ i. all_over_earlier (λ (earlier : List Certificate) (c : Certificate). every (certificate_clauses_same earlier c i)) [] cs

  module _ (t : State) (rules : p₁.rules ≡ p₂.rules) where
    row_clauses_same : (earlier : List Row) (r : Row) → row_clauses (world_of p₁ t) earlier r ≡ row_clauses (world_of p₂ t) earlier r
    unfolding row_clauses
    row_clauses_same earlier r =
        λ i.
        ltb r.user users
        ∷ ltb r.role roles
        ∷ not (active earlier r.user r.role)
        ∷ ltb r.rule (length (rules i))
        ∷ eqb (get_or (rules i) r.rule no_rule).target r.role
        ∷ supported-same p₁ p₂ t rules kinds i earlier r
        ∷ []

    rows_same : (rows : List Row) → all_over_earlier (row_sound (world_of p₁ t)) [] rows ≡ all_over_earlier (row_sound (world_of p₂ t)) [] rows
    rows_same rows = λ i. all_over_earlier (λ (earlier : List Row) (r : Row). every (row_clauses_same earlier r i)) [] rows

pub sound-without-rights : (t : Tables) (s : List ℕ) → sound (policy_of (without_rights t.rules t.kinds)) s ≡ sound (policy_of t) s
unfolding sound sound_values policy_of
sound-without-rights t s =
    λ i.
    well_formed s
    && (certificates-same (policy_of (without_rights t.rules t.kinds)) (policy_of t) refl (decode s).certificates i
    && rows_same (policy_of (without_rights t.rules t.kinds)) (policy_of t) refl (decode s) refl (decode s).rows i)

-- the certificates are judged by the kinds alone
pub values_parts : (rules kinds s : List ℕ) → (all_over_earlier (certificate_sound (kinds_only kinds)) [] (decode s).certificates && all_over_earlier (row_sound (world_at rules kinds s)) [] (decode s).rows) ≡ sound_values (policy_of (without_rights rules kinds)) (decode s)
unfolding sound_values policy_of
values_parts rules kinds s = ap (λ (b : Bool). b && all_over_earlier (row_sound (world_at rules kinds s)) [] (decode s).rows) (certificates-same (kinds_only kinds) (policy_of (without_rights rules kinds)) refl (decode s).certificates)

-- When a role is granted, and when a privilege is. On sound tables.
use Prim.Native.Nat.{ℕ, ◌<◌, ◌≤◌}
use mathlib.Core.Path.{◌≡◌, sym, ap, ◌∙◌, subst, subst⁻¹}
use mathlib.Core.Bool.{Bool, true, false, not, ◌&&◌, cond}
use mathlib.Core.Logic.{◌↔◌}
use mathlib.Core.List.{List, [], ◌∷◌, ◌++◌, Memᴰ}
use native.Mathlib.Omega.{arith}
use lib.Dec.{T, eqb, leb, eqb→eq, eqb_refl, lt→ltb, leb→le, T_not, not_T}
use lib.ListN.{length}
use Rattle.model.specs.Lists.{any, every}
use Rattle.model.specs.Limits.{users, roles, privileges, most_rows}
use Rattle.model.specs.Values.{Tables, State, world_of}
use Rattle.model.specs.Layout.{policy_of, decode}
use Rattle.model.specs.Conditions.{rule_numbered, active, satisfied}
use Rattle.model.specs.Sound.{sound_policy, sound}
use Rattle.model.specs.Effective.{direct, Carries, effectively}
use Rattle.model.specs.Outcome.{judged_first}
use Rattle.model.specs.Calls.{activate, invoke, effective, is_user, is_role, is_privilege, some_rule_satisfied, lowest_rule, activate_on, invoke_on, effective_on, allowed, course_of, answer}
use Rattle.model.specs.declared.Row.{Row}
use Rattle.model.specs.Words.{Sound, SatisfiedNow, Granted, CarriedNow}
use Rattle.model.proofs.Tests.{not_not, not_not_of, of_each, any_of, of_any, at_place, and_left, and_right, and_both}
use Rattle.model.proofs.Numbers.{sound-decode}
use Rattle.model.proofs.Refusals.{Passed, accepted_done, accepted_passed, passed_accepted}
use Rattle.model.proofs.Accepted.{lowest_rule_lem, effect_decoded}
use Rattle.model.proofs.Carried.{effectively-carries}

-- ── activate ──

module _ (t : Tables) (s list : List ℕ) (u q : ℕ) where
  pub rule_gives_grant : Sound t s → u < users → q < roles → T (not (active (decode s).rows u q)) → length (decode s).rows < most_rows → (i : ℕ) × SatisfiedNow t s u q i → (answer t s list (activate u q)).code ≡ 0
  unfolding course_of judged_first activate_on
  rule_gives_grant h a b new room rule =
      passed_accepted t s list (activate u q) (
        not_not_of (sound_policy t) h.policy,
        (
          not_not_of (sound (policy_of t) s) h.state,
          (
            not_not_of (every (is_user u ∷ is_role q ∷ [])) (of_each (is_user u ∷ is_role q ∷ []) (lt→ltb u users a, (lt→ltb q roles b, tt))),
            (
              new,
              (
                not_not_of (some_rule_satisfied (policy_of t) (decode s) u q) (of_any (satisfied (world_of (policy_of t) (decode s)) (decode s).rows u q) (rule_numbered (policy_of t) rule.0) (policy_of t).rules (at_place (policy_of t).rules rule.0 _ rule.1.exists) rule.1.holds_now),
                (
                  not_T (leb most_rows (length (decode s).rows)) (λ l. full (leb→le most_rows (length (decode s).rows) l)),
                  tt,
                ),
              ),
            ),
          ),
        ),
      )
    where
      full : most_rows ≤ length (decode s).rows → ⊥
      full l = omega arith

  pub granted : (answer t s list (activate u q)).code ≡ 0 → Granted t s u q (answer t s list (activate u q))
  unfolding course_of judged_first activate_on
  granted e =
      let ok : Passed (course_of t s list (activate u q)).refusals = accepted_passed t s list (activate u q) e in
      let l = lowest_rule_lem t s list u q (not_not (some_rule_satisfied (policy_of t) (decode s) u q) ok.1.1.1.1.0) in
      let same : (answer t s list (activate u q)).second ≡ lowest_rule (policy_of t) (decode s) u q = (accepted_done t s list (activate u q) e).second_told in
      record {
        satisfied_now = subst⁻¹ (λ (n : ℕ). SatisfiedNow t s u q n) same (record { exists = l.0; holds_now = l.1 });
        none_lower = λ i h v. T_not (satisfied (world_of (policy_of t) (decode s)) (decode s).rows u q (rule_numbered (policy_of t) i)) (l.2 i (subst (λ (n : ℕ). i < n) same h)) v.holds_now;
        one_row_more = ap (λ (x : State). x.rows) (effect_decoded t s list (activate u q) e) ∙ ap (λ (n : ℕ). (decode s).rows ++ (record { user = u; role = q; rule = n } ∷ [])) (sym same);
      }

-- ── invoke and effective ──

-- a second number that says yes or no
one_if : (n : ℕ) (v : Bool) → n ≡ cond v 1 0 → (n ≡ 1) ↔ T v
one_if n true e = (λ _. tt, λ _. e)
one_if n false e = (λ q. absurd (omega arith), λ v. absurd v)

module _ (t : Tables) (s list : List ℕ) (u x : ℕ) where
  carried : T (allowed (policy_of t) (decode s).rows u x) ↔ CarriedNow t s u x
  unfolding allowed
  carried = (there, back)
    where
      test : Row → Bool
      test r = eqb r.user u && direct (policy_of t) r.role x

      there : T (any test (decode s).rows) → CarriedNow t s u x
      there v =
          let w : (r : Row) × Memᴰ r (decode s).rows × T (test r) = any_of test (decode s).rows v in
          record {
            row = w.0;
            is_active = w.1;
            of_the_user = eqb→eq w.0.user u (and_left (eqb w.0.user u) (direct (policy_of t) w.0.role x) w.2);
            has_right = and_right (eqb w.0.user u) (direct (policy_of t) w.0.role x) w.2;
          }

      back : CarriedNow t s u x → T (any test (decode s).rows)
      back c = of_any test c.row (decode s).rows c.is_active (and_both (eqb c.row.user u) (direct (policy_of t) c.row.role x) (subst⁻¹ (λ (n : ℕ). T (eqb n u)) c.of_the_user (eqb_refl u)) c.has_right)

  module _ (h : Sound t s) (a : u < users) (b : x < privileges) where
    pub invoke-accepted : (answer t s list (invoke u x)).code ≡ 0
    unfolding course_of judged_first invoke_on
    invoke-accepted =
        passed_accepted t s list (invoke u x) (
          not_not_of (sound_policy t) h.policy,
          (
            not_not_of (sound (policy_of t) s) h.state,
            (
              not_not_of (every (is_user u ∷ is_privilege x ∷ [])) (of_each (is_user u ∷ is_privilege x ∷ []) (lt→ltb u users a, (lt→ltb x privileges b, tt))),
              tt,
            ),
          ),
        )

    allowed_one : ((answer t s list (invoke u x)).second ≡ 1) ↔ T (allowed (policy_of t) (decode s).rows u x)
    unfolding course_of judged_first invoke_on
    allowed_one = one_if _ (allowed (policy_of t) (decode s).rows u x) (accepted_done t s list (invoke u x) invoke-accepted).second_told

    pub invoked_one : ((answer t s list (invoke u x)).second ≡ 1) ↔ CarriedNow t s u x
    invoked_one = (λ e. carried.0 (allowed_one.0 e), λ c. allowed_one.1 (carried.1 c))

    -- what a role of the user carries, the user may use
    pub carried_invoked : T (allowed (policy_of t) (decode s).rows u x) → (answer t s list (invoke u x)).second ≡ 1
    carried_invoked v = allowed_one.1 v

    module _ (q : ℕ) (c : q < roles) (active_now : T (active (decode s).rows u q)) where
      effective-accepted : (answer t s list (effective u q x)).code ≡ 0
      unfolding course_of judged_first effective_on
      effective-accepted =
          passed_accepted t s list (effective u q x) (
            not_not_of (sound_policy t) h.policy,
            (
              not_not_of (sound (policy_of t) s) h.state,
              (
                not_not_of (every (is_user u ∷ is_role q ∷ is_privilege x ∷ [])) (of_each (is_user u ∷ is_role q ∷ is_privilege x ∷ []) (lt→ltb u users a, (lt→ltb q roles c, (lt→ltb x privileges b, tt)))),
                (
                  not_not_of (active (decode s).rows u q) active_now,
                  tt,
                ),
              ),
            ),
          )

      computed_one : ((answer t s list (effective u q x)).second ≡ 1) ↔ T (effectively (policy_of t) (decode s).rows u q x)
      unfolding course_of judged_first effective_on
      computed_one = one_if _ (effectively (policy_of t) (decode s).rows u q x) (accepted_done t s list (effective u q x) effective-accepted).second_told

      pub effective_one : ((answer t s list (effective u q x)).second ≡ 1) ↔ Carries (policy_of t) (decode s).rows u x q
      effective_one =
          let v = effectively-carries (policy_of t) (decode s) (sound-decode (policy_of t) s h.state) u q x in
          (λ e. v.0 (computed_one.0 e), λ k. computed_one.1 (v.1 k))

-- What each accepted call leaves: a sound state, in which the active rows are the largest supported part of those held.
use Prim.Native.Nat.{ℕ, ◌<◌}
use mathlib.Core.Path.{◌≡◌, refl, ap, ◌∙◌, subst, subst⁻¹}
use mathlib.Core.Bool.{not}
use mathlib.Core.List.Sublistᴰ
use mathlib.Core.List.{List, [], ◌∷◌, ◌++◌, Memᴰ}
use native.Mathlib.Omega.{arith}
use lib.Dec.{T, eqb, ltb, nleb→lt}
use lib.ListN.{length, replicate}
use Rattle.model.specs.Lists.{every, all_over_earlier, without, is_bit}
use Rattle.model.specs.Limits.{facts, most_rows, most_certificates, state_size}
use Rattle.model.specs.Values.{Tables, Policy, State, world_of, with_rows, with_fact}
use Rattle.model.specs.Layout.{policy_of, decode}
use Rattle.model.specs.Conditions.{satisfied, supported, rule_numbered}
use Rattle.model.specs.Left.{left, Supported, Largest}
use Rattle.model.specs.Sound.{sound_policy, sound, sound_values, row_sound, same_certificate, certificate_clauses, form_clauses}
use Rattle.model.specs.Outcome.{judged_first}
use Rattle.model.specs.Calls.{Call, fresh, activate, appoint, revoke, withdraw, environment, logout, invoke, effective, chain, is_user, is_role, has_row, of_user, nothing, settled, without_certificate, some_rule_satisfied, lowest_rule, activate_on, appoint_on, revoke_on, withdraw_on, environment_on, logout_on, invoke_on, effective_on, chain_on, fresh_on, course_of, answer}
use Rattle.model.specs.declared.Row.{Row}
use Rattle.model.specs.declared.Certificate.{Certificate}
use Rattle.model.specs.Held.{held}
use Rattle.model.specs.Words.{Fits, SoundState}
use Rattle.model.proofs.Tests.{not_not, each, of_each, first-place, earlier_of}
use Rattle.model.proofs.Parts.{part-front, part-member, part_length, without-part}
use Rattle.model.proofs.Sweep.{largest_whole, left_largest}
use Rattle.model.proofs.Support.{active_grows, supported_grows, row-supported, Serves, support, ordered}
use Rattle.model.proofs.Numbers.{sound-decode, sound-encode, decode-encode}
use Rattle.model.proofs.Refusals.{Passed, accepted_done, accepted_passed}
use Rattle.model.proofs.Kept.{certificates_fit, sound-rows, row_added, granted-sound, certificate_added, fallen_sound, ByUser, users_gone, fact-fits}

-- ── a sound state supports its rows, and taking from it leaves the largest part ──

sound-supported : (p : Policy) (t : State) → SoundState p t → Supported (supported (world_of p t)) t.rows
sound-supported p t h r m =
    let e : (before : List Row) × (after : List Row) × (t.rows ≡ before ++ (r ∷ after)) × T (row_sound (world_of p t) ([] ++ before) r) = earlier_of (row_sound (world_of p t)) [] t.rows (sound-rows p t h) r m in
    supported_grows (world_of p t) e.0 t.rows r
    (λ q k a. active_grows e.0 t.rows r.user q (λ x v. subst⁻¹ (λ (l : List Row). Memᴰ x l) e.2 (part-member x e.0 _ (part-front e.0 (r ∷ e.1)) v)) a)
    (row-supported (world_of p t) e.0 r e.3)

-- whatever became of facts and certificates
pub fallen_largest : (p : Policy) (before after : State) → T (all_over_earlier (row_sound (world_of p before)) [] after.rows) → Largest (supported (world_of p after)) after.rows (left (supported (world_of p after)) after.rows)
fallen_largest p before after h = left_largest (supported (world_of p after)) (Serves p) (support (world_of p after)) after.rows (ordered (world_of p before) [] after.rows h)

-- ── the ways in which the calls change a state ──

pub by_user : (u : ℕ) → ByUser (of_user u)
by_user u = record { alike = λ a b e t. subst (λ (n : ℕ). T (eqb n u)) e t }

nothing-sound : (p : Policy) → SoundState p nothing
unfolding sound_values
nothing-sound p = record { fits = record { all_facts = refl; bits = tt; room_for_rows = omega arith; room_for_certificates = omega arith }; values = tt }

pub zeros-sound : (p : Policy) → T (sound p (replicate state_size 0))
unfolding sound sound_values decode form_clauses
zeros-sound p = tt

certificate_gone_fits : (t : State) (c : Certificate) → Fits t → Fits (without_certificate t c)
certificate_gone_fits t c f =
    certificates_fit t (without (same_certificate c) t.certificates) f
    (omega (arith, part_length (without (same_certificate c) t.certificates) t.certificates (without-part (same_certificate c) t.certificates), f.room_for_certificates))

certificate_gone_sound : (p : Policy) (t : State) (c : Certificate) → SoundState p t → SoundState p (with_rows (without_certificate t c) (left (supported (world_of p (without_certificate t c))) t.rows))
certificate_gone_sound p t c h = fallen_sound p t (without_certificate t c) h (certificate_gone_fits t c h.fits) (without-part (same_certificate c) t.certificates) (sound-rows p t h)

fact-set-sound : (p : Policy) (t : State) (f v : ℕ) → T (is_bit v) → SoundState p t → SoundState p (with_rows (with_fact t f v) (left (supported (world_of p (with_fact t f v))) t.rows))
fact-set-sound p t f v b h = fallen_sound p t (with_fact t f v) h (fact-fits t f v h.fits b) (Sublistᴰ.refl t.certificates) (sound-rows p t h)

-- ── each call ──

module _ (t : Tables) (s list : List ℕ) where
  -- the rule that an accepted activation takes
  pub lowest_rule_lem : (u q : ℕ) → T (some_rule_satisfied (policy_of t) (decode s) u q)
      → (lowest_rule (policy_of t) (decode s) u q < length (policy_of t).rules)
      × T (satisfied (world_of (policy_of t) (decode s)) (decode s).rows u q (rule_numbered (policy_of t) (lowest_rule (policy_of t) (decode s) u q)))
      × ((i : ℕ) → i < lowest_rule (policy_of t) (decode s) u q → T (not (satisfied (world_of (policy_of t) (decode s)) (decode s).rows u q (rule_numbered (policy_of t) i))))
  lowest_rule_lem u q h = first-place (satisfied (world_of (policy_of t) (decode s)) (decode s).rows u q) (policy_of t).rules _ h

  effect-sound : (c : Call) → Passed (course_of t s list c).refusals → SoundState (policy_of t) (course_of t s list c).effect.state
  unfolding course_of judged_first fresh_on activate_on appoint_on revoke_on withdraw_on environment_on logout_on invoke_on effective_on chain_on settled certificate_clauses
  effect-sound fresh ok = nothing-sound (policy_of t)
  effect-sound (activate u q) ok =
      let range = each (is_user u ∷ is_role q ∷ []) (not_not (every (is_user u ∷ is_role q ∷ [])) ok.1.1.0) in
      let lowest = lowest_rule_lem u q (not_not (some_rule_satisfied (policy_of t) (decode s) u q) ok.1.1.1.1.0) in
      row_added (policy_of t) (decode s) (record { user = u; role = q; rule = lowest_rule (policy_of t) (decode s) u q })
      (sound-decode (policy_of t) s (not_not (sound (policy_of t) s) ok.1.0)) (nleb→lt most_rows (length (decode s).rows) ok.1.1.1.1.1.0)
      (granted-sound t (decode s) u q (lowest_rule (policy_of t) (decode s) u q) (not_not (sound_policy t) ok.0) range.0 range.1.0 ok.1.1.1.0 lowest.0 lowest.1)
  effect-sound (appoint a b k) ok =
      let c : Certificate = record { appointee = b; kind = k; appointer = a } in
      let range = each (is_user a ∷ is_user b ∷ has_row (policy_of t) k ∷ []) (not_not (every (is_user a ∷ is_user b ∷ has_row (policy_of t) k ∷ [])) ok.1.1.0) in
      certificate_added (policy_of t) (decode s) c (sound-decode (policy_of t) s (not_not (sound (policy_of t) s) ok.1.0)) (nleb→lt most_certificates (length (decode s).certificates) ok.1.1.1.1.1.0)
      (of_each (certificate_clauses (policy_of t) (decode s).certificates c) (range.1.0, (range.1.1.0, (range.0, (ok.1.1.1.1.0, tt)))))
  effect-sound (revoke x a k b) ok = certificate_gone_sound (policy_of t) (decode s) (record { appointee = a; kind = k; appointer = b }) (sound-decode (policy_of t) s (not_not (sound (policy_of t) s) ok.1.0))
  effect-sound (withdraw a k b) ok = certificate_gone_sound (policy_of t) (decode s) (record { appointee = a; kind = k; appointer = b }) (sound-decode (policy_of t) s (not_not (sound (policy_of t) s) ok.1.0))
  effect-sound (environment f v) ok =
      let range = each (ltb f facts ∷ is_bit v ∷ []) (not_not (every (ltb f facts ∷ is_bit v ∷ [])) ok.1.1.0) in
      fact-set-sound (policy_of t) (decode s) f v range.1.0 (sound-decode (policy_of t) s (not_not (sound (policy_of t) s) ok.1.0))
  effect-sound (logout u) ok = users_gone (policy_of t) (decode s) (of_user u) (by_user u) (sound-decode (policy_of t) s (not_not (sound (policy_of t) s) ok.1.0))
  effect-sound (invoke u x) ok = sound-decode (policy_of t) s (not_not (sound (policy_of t) s) ok.1.0)
  effect-sound (effective u q x) ok = sound-decode (policy_of t) s (not_not (sound (policy_of t) s) ok.1.0)
  effect-sound (chain u q) ok = sound-decode (policy_of t) s (not_not (sound (policy_of t) s) ok.1.0)

  effect_largest : (c : Call) → Passed (course_of t s list c).refusals
      → Largest (supported (world_of (policy_of t) (course_of t s list c).effect.state)) (held (policy_of t) (decode s) c) (course_of t s list c).effect.state.rows
  unfolding course_of judged_first fresh_on activate_on appoint_on revoke_on withdraw_on environment_on logout_on invoke_on effective_on chain_on settled held
  effect_largest fresh ok = largest_whole _ [] (sound-supported (policy_of t) nothing (effect-sound fresh ok))
  effect_largest (activate u q) ok = largest_whole _ _ (sound-supported (policy_of t) _ (effect-sound (activate u q) ok))
  effect_largest (appoint a b k) ok = largest_whole _ _ (sound-supported (policy_of t) _ (effect-sound (appoint a b k) ok))
  effect_largest (revoke x a k b) ok = fallen_largest (policy_of t) (decode s) (without_certificate (decode s) (record { appointee = a; kind = k; appointer = b })) (sound-rows (policy_of t) (decode s) (sound-decode (policy_of t) s (not_not (sound (policy_of t) s) ok.1.0)))
  effect_largest (withdraw a k b) ok = fallen_largest (policy_of t) (decode s) (without_certificate (decode s) (record { appointee = a; kind = k; appointer = b })) (sound-rows (policy_of t) (decode s) (sound-decode (policy_of t) s (not_not (sound (policy_of t) s) ok.1.0)))
  effect_largest (environment f v) ok = fallen_largest (policy_of t) (decode s) (with_fact (decode s) f v) (sound-rows (policy_of t) (decode s) (sound-decode (policy_of t) s (not_not (sound (policy_of t) s) ok.1.0)))
  effect_largest (logout u) ok = largest_whole _ _ (sound-supported (policy_of t) _ (effect-sound (logout u) ok))
  effect_largest (invoke u x) ok = largest_whole _ _ (sound-supported (policy_of t) _ (effect-sound (invoke u x) ok))
  effect_largest (effective u q x) ok = largest_whole _ _ (sound-supported (policy_of t) _ (effect-sound (effective u q x) ok))
  effect_largest (chain u q) ok = largest_whole _ _ (sound-supported (policy_of t) _ (effect-sound (chain u q) ok))

  module _ (c : Call) (ok : (answer t s list c).code ≡ 0) where
    -- the state that is left, read again, is the effect's
    pub effect_decoded : decode (answer t s list c).state ≡ (course_of t s list c).effect.state
    effect_decoded = ap decode (accepted_done t s list c ok).state_left ∙ decode-encode _ (effect-sound c (accepted_passed t s list c ok)).fits

    pub accepted-sound : T (sound (policy_of t) (answer t s list c).state)
    accepted-sound = subst⁻¹ (λ (l : List ℕ). T (sound (policy_of t) l)) (accepted_done t s list c ok).state_left (sound-encode (policy_of t) _ (effect-sound c (accepted_passed t s list c ok)))

    pub accepted_largest : Largest (supported (world_of (policy_of t) (decode (answer t s list c).state))) (held (policy_of t) (decode s) c) (decode (answer t s list c).state).rows
    accepted_largest = subst⁻¹ (λ (x : State). Largest (supported (world_of (policy_of t) x)) (held (policy_of t) (decode s) c) x.rows) effect_decoded (effect_largest c (accepted_passed t s list c ok))

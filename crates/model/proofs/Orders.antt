-- Withdrawals in any order. What a list leaves is what taking all of it away at once leaves, by the order theory of largest
-- supported parts and not by cases on pairs of calls.
use Prim.Native.Nat.{ℕ, ◌-◌, ◌≤◌}
use mathlib.Core.Path.{◌≡◌, sym, ap, ◌∙◌, subst, subst⁻¹}
use mathlib.Core.Bool.{Bool, false, not, ◌||◌, or-false}
use mathlib.Core.Logic.{◌≢◌, ◌⊎◌, inl, inr}
use mathlib.Core.List.{List, [], ◌∷◌, ◌++◌, Memᴰ, Permᴰ, Sublistᴰ}
use native.Mathlib.Omega.{arith}
use lib.Dec.{T, eqb, ltb, eqb→eq, nltb→le, T_not, not_T}
use lib.ListN.{set}
use lib.Seq.{set_out}
use Rattle.model.specs.Lists.{every, without, is_bit}
use Rattle.model.specs.Limits.{facts}
use Rattle.model.specs.Values.{Tables, Policy, State, world_of, with_rows, with_fact}
use Rattle.model.specs.Layout.{policy_of, decode, encode}
use Rattle.model.specs.Conditions.{supported}
use Rattle.model.specs.Left.{left, Largest}
use Rattle.model.specs.Sound.{sound_policy, sound, row_sound, same_certificate, certificate_clauses, certificate_sound}
use Rattle.model.specs.Outcome.{judged_first}
use Rattle.model.specs.Calls.{environment, withdraw, logout, is_user, has_row, stands, of_user, without_certificate, settled, environment_on, withdraw_on, logout_on, course_of, answer}
use Rattle.model.specs.Withdrawals.{Withdrawal, fact_false, certificate_gone, logged_out, call_of, run, names_user_of, taken_away, all_at_once}
use Rattle.model.specs.declared.Row.{Row}
use Rattle.model.specs.declared.Certificate.{Certificate}
use Rattle.model.specs.Words.{Sound, SoundState}
use Rattle.model.proofs.Tests.{decide, not_not_of, each, of_each, any_of, of_any, earlier_of, earlier_map}
use Rattle.model.proofs.Parts.{without-none, without-same, part-member, part-front}
use Rattle.model.proofs.Sweep.{left_whole, in_turn_or_at_once, less_keeps_more}
use Rattle.model.proofs.Support.{less_supports, row-supported, row-user}
use Rattle.model.proofs.Numbers.{sound-decode, sound_formed, encode-decode, decode-encode}
use Rattle.model.proofs.Refusals.{accepted_or_refused, refused_unchanged, passed_accepted}
use Rattle.model.proofs.Kept.{sound-rows, sound-certificates, rows-without-user, users_gone}
use Rattle.model.proofs.Accepted.{fallen_largest, by_user, effect_decoded, accepted-sound}
use Rattle.model.proofs.Taken.{Fewer, gone_row, gone_by_user, any_order, facts_one, facts_unnamed, taken-facts, taken-certificates, taken-rows, taken_less, taken-same, unnamed, all-at-once-sound, all_at_once_largest}

-- ── two lists in turn ──

-- what the state comes to once unsupported rows have fallen
abbrev fallen : Policy → State → State
fallen p t = with_rows t (left (supported (world_of p t)) t.rows)

in_turn : (p : Policy) (t : State) (vs ws : List Withdrawal) → SoundState p t → all_at_once p (all_at_once p t vs) ws ≡ all_at_once p t (vs ++ ws)
unfolding all_at_once taken_away gone_row
in_turn p t vs ws h = λ i. record { facts = taken-facts vs ws t one.rows i; rows = rows i; certificates = taken-certificates vs ws t one.rows i }
  where
    one : State
    one = fallen p (taken_away vs t)

    both : State
    both = taken_away (vs ++ ws) t

    -- the rows that stay if the second list is taken from what the first has left
    second : Largest (supported (world_of p both)) (without (gone_row ws) one.rows) (left (supported (world_of p both)) (without (gone_row ws) one.rows))
    second = fallen_largest p one (with_rows both (without (gone_row ws) one.rows)) (rows-without-user p one (gone_row ws) (gone_by_user ws) (sound-rows p one (all-at-once-sound p t vs h)))

    once : Largest (supported (world_of p both)) (without (gone_row ws) (taken_away vs t).rows) (left (supported (world_of p both)) both.rows)
    once = subst⁻¹ (λ (l : List Row). Largest (supported (world_of p both)) l (left (supported (world_of p both)) both.rows)) (taken-rows vs ws t) (all_at_once_largest p t (vs ++ ws) h)

    rows : left (supported (world_of p (taken_away ws one))) (taken_away ws one).rows ≡ left (supported (world_of p both)) both.rows
    rows =
        (λ i. left (supported (record { policy = p; facts = taken-facts vs ws t one.rows i; certificates = taken-certificates vs ws t one.rows i })) (taken_away ws one).rows)
        ∙ in_turn_or_at_once (supported (world_of p (taken_away vs t))) (supported (world_of p both)) (less_supports p both (taken_away vs t) (taken_less vs (vs ++ ws) (λ w m. part-member w vs _ (part-front vs ws) m) t)) (gone_row ws) (taken_away vs t).rows one.rows _ _ (all_at_once_largest p t vs h) second once

-- ── nothing to take ──

-- the rows of a sound state are all left
sound-left : (p : Policy) (t : State) → SoundState p t → left (supported (world_of p t)) t.rows ≡ t.rows
sound-left p t h = left_whole (supported (world_of p t)) t.rows (earlier_map (row_sound (world_of p t)) (supported (world_of p t)) (λ earlier r v. row-supported (world_of p t) earlier r v) [] t.rows (sound-rows p t h))

still : (p : Policy) (t : State) → SoundState p t → fallen p t ≡ t
still p t h = λ i. record { facts = t.facts; rows = sound-left p t h i; certificates = t.certificates }

none-taken : (p : Policy) (t : State) → SoundState p t → all_at_once p t [] ≡ t
unfolding all_at_once taken_away
none-taken p t h = ap (fallen p) (λ i. record { facts = facts_unnamed [] (λ f. tt) 0 t.facts i; rows = without-none (λ (r : Row). false) t.rows (λ r m. tt) i; certificates = without-none (λ (c : Certificate). false) t.certificates (λ c m. tt) i }) ∙ still p t h

-- ── one withdrawal is its call ──

fact-taken : (p : Policy) (t : State) (f : ℕ) → all_at_once p t (fact_false f ∷ []) ≡ fallen p (with_fact t f 0)
unfolding all_at_once taken_away
fact-taken p t f =
    let zero-off : f - 0 ≡ f = omega arith in
    ap (fallen p) (λ i. record { facts = (facts_one f 0 t.facts (omega arith) ∙ ap (λ (n : ℕ). set t.facts n 0) zero-off) i; rows = without-none (λ (r : Row). false) t.rows (λ r m. tt) i; certificates = without-none (λ (c : Certificate). false) t.certificates (λ c m. tt) i })

certificate-taken : (p : Policy) (t : State) (c : Certificate) → all_at_once p t (certificate_gone c ∷ []) ≡ fallen p (without_certificate t c)
unfolding all_at_once taken_away
certificate-taken p t c = ap (fallen p) (λ i. record { facts = facts_unnamed (certificate_gone c ∷ []) (λ f. tt) 0 t.facts i; rows = without-none (λ (r : Row). false) t.rows (λ r m. tt) i; certificates = without-same (λ (d : Certificate). same_certificate c d || false) (same_certificate c) t.certificates (λ d m. or-false (same_certificate c d)) i })

user-taken : (p : Policy) (t : State) (u : ℕ) → SoundState p t → all_at_once p t (logged_out u ∷ []) ≡ with_rows t (without (of_user u) t.rows)
unfolding all_at_once taken_away
user-taken p t u h =
    ap (fallen p) (λ i. record { facts = facts_unnamed (logged_out u ∷ []) (λ f. tt) 0 t.facts i; rows = without-same (λ (r : Row). of_user u r || false) (of_user u) t.rows (λ r m. or-false (of_user u r)) i; certificates = without-none (λ (c : Certificate). false) t.certificates (λ c m. tt) i })
    ∙ still p (with_rows t (without (of_user u) t.rows)) (users_gone p t (of_user u) (by_user u) h)

module _ (t : Tables) (s : List ℕ) (h : Sound t s) where
  sound_now : SoundState (policy_of t) (decode s)
  sound_now = sound-decode (policy_of t) s h.state

  -- accepted, the call takes what the withdrawal names
  call_takes : (w : Withdrawal) → (course_of t s [] (call_of w)).effect.state ≡ all_at_once (policy_of t) (decode s) (w ∷ [])
  unfolding course_of judged_first environment_on withdraw_on logout_on settled
  call_takes (fact_false f) = sym (fact-taken (policy_of t) (decode s) f)
  call_takes (certificate_gone c) = sym (certificate-taken (policy_of t) (decode s) c)
  call_takes (logged_out u) = sym (user-taken (policy_of t) (decode s) u sound_now)

  -- refused, there is nothing that it names
  fact-refused : (f : ℕ) → (answer t s [] (environment f 0)).code ≢ 0 → facts ≤ f
  unfolding course_of judged_first environment_on
  fact-refused f n = go (decide (ltb f facts))
    where
      go : T (ltb f facts) ⊎ T (not (ltb f facts)) → facts ≤ f
      go (inl l) =
          absurd (n (passed_accepted t s [] (environment f 0)
          (not_not_of (sound_policy t) h.policy, (not_not_of (sound (policy_of t) s) h.state, (not_not_of (every (ltb f facts ∷ is_bit 0 ∷ [])) (of_each (ltb f facts ∷ is_bit 0 ∷ []) (l, (tt, tt))), tt)))))
      go (inr l) = nltb→le f facts l

  certificate-refused : (c : Certificate) → (answer t s [] (withdraw c.appointee c.kind c.appointer)).code ≢ 0 → T (not (stands (decode s) c))
  unfolding course_of judged_first withdraw_on certificate_clauses
  certificate-refused c n = not_T (stands (decode s) c) refuse
    where
      range : List Bool
      range = is_user c.appointee ∷ has_row (policy_of t) c.kind ∷ is_user c.appointer ∷ []

      -- a certificate that stands is in range
      in_range : (d : Certificate) → Memᴰ d (decode s).certificates → T (same_certificate c d) → T (every range)
      in_range d m same =
          let e = earlier_of (certificate_sound (policy_of t)) [] (decode s).certificates (sound-certificates (policy_of t) (decode s) sound_now) d m in
          let k = each (certificate_clauses (policy_of t) e.0 d) e.3 in
          let q = each (eqb c.appointee d.appointee ∷ eqb c.kind d.kind ∷ eqb c.appointer d.appointer ∷ []) same in
          of_each range (
            subst⁻¹ (λ (x : ℕ). T (is_user x)) (eqb→eq c.appointee d.appointee q.0) k.0,
            (
              subst⁻¹ (λ (x : ℕ). T (has_row (policy_of t) x)) (eqb→eq c.kind d.kind q.1.0) k.1.0,
              (
                subst⁻¹ (λ (x : ℕ). T (is_user x)) (eqb→eq c.appointer d.appointer q.1.1.0) k.1.1.0,
                tt,
              ),
            ),
          )

      refuse : T (stands (decode s) c) → ⊥
      refuse v =
          let d : (d : Certificate) × Memᴰ d (decode s).certificates × T (same_certificate c d) = any_of (same_certificate c) (decode s).certificates v in
          n (passed_accepted t s [] (withdraw c.appointee c.kind c.appointer)
          (not_not_of (sound_policy t) h.policy, (not_not_of (sound (policy_of t) s) h.state, (not_not_of (every range) (in_range d.0 d.1 d.2), (not_not_of (stands (decode s) c) v, tt)))))

  user-refused : (u : ℕ) → (answer t s [] (logout u)).code ≢ 0 → (r : Row) → Memᴰ r (decode s).rows → T (not (of_user u r))
  unfolding course_of judged_first logout_on
  user-refused u n r m = not_T (of_user u r) refuse
    where
      refuse : T (of_user u r) → ⊥
      refuse v =
          let e = earlier_of (row_sound (world_of (policy_of t) (decode s))) [] (decode s).rows (sound-rows (policy_of t) (decode s) sound_now) r m in
          let inside : T (is_user u) = subst (λ (x : ℕ). T (is_user x)) (eqb→eq r.user u v) (row-user (world_of (policy_of t) (decode s)) e.0 r e.3) in
          n (passed_accepted t s [] (logout u) (not_not_of (sound_policy t) h.policy, (not_not_of (sound (policy_of t) s) h.state, (not_not_of (every (is_user u ∷ [])) (of_each (is_user u ∷ []) (inside, tt)), tt))))

  refused_takes_nothing : (w : Withdrawal) → (answer t s [] (call_of w)).code ≢ 0 → all_at_once (policy_of t) (decode s) (w ∷ []) ≡ decode s
  refused_takes_nothing (fact_false f) n =
      let same : set (decode s).facts f 0 ≡ (decode s).facts = set_out (decode s).facts f 0 (omega (arith, sound_now.fits.all_facts, fact-refused f n)) in
      fact-taken (policy_of t) (decode s) f
      ∙ ap (fallen (policy_of t)) (λ i. record { facts = same i; rows = (decode s).rows; certificates = (decode s).certificates })
      ∙ still (policy_of t) (decode s) sound_now
  refused_takes_nothing (certificate_gone c) n =
      certificate-taken (policy_of t) (decode s) c
      ∙ ap (fallen (policy_of t)) (λ i. record { facts = (decode s).facts; rows = (decode s).rows; certificates = without-none (same_certificate c) (decode s).certificates (λ d m. not_T (same_certificate c d) (λ v. T_not (stands (decode s) c) (certificate-refused c n) (of_any (same_certificate c) d (decode s).certificates m v))) i })
      ∙ still (policy_of t) (decode s) sound_now
  refused_takes_nothing (logged_out u) n =
      user-taken (policy_of t) (decode s) u sound_now ∙ (λ i. record { facts = (decode s).facts; rows = without-none (of_user u) (decode s).rows (user-refused u n) i; certificates = (decode s).certificates })

  one_withdrawal : (w : Withdrawal) → decode (answer t s [] (call_of w)).state ≡ all_at_once (policy_of t) (decode s) (w ∷ [])
  one_withdrawal w = go (accepted_or_refused t s [] (call_of w))
    where
      go : ((answer t s [] (call_of w)).code ≡ 0) ⊎ ((answer t s [] (call_of w)).code ≢ 0) → decode (answer t s [] (call_of w)).state ≡ all_at_once (policy_of t) (decode s) (w ∷ [])
      go (inl e) = effect_decoded t s [] (call_of w) e ∙ call_takes w
      go (inr n) = ap decode (refused_unchanged t s [] (call_of w) n).state_same ∙ sym (refused_takes_nothing w n)

  still-sound : (w : Withdrawal) → Sound t (answer t s [] (call_of w)).state
  still-sound w = record { policy = h.policy; state = go (accepted_or_refused t s [] (call_of w)) }
    where
      go : ((answer t s [] (call_of w)).code ≡ 0) ⊎ ((answer t s [] (call_of w)).code ≢ 0) → T (sound (policy_of t) (answer t s [] (call_of w)).state)
      go (inl e) = accepted-sound t s [] (call_of w) e
      go (inr n) = subst⁻¹ (λ (l : List ℕ). T (sound (policy_of t) l)) (refused_unchanged t s [] (call_of w) n).state_same h.state

-- ── lists of any length ──

pub run_leaves : (t : Tables) (s : List ℕ) → Sound t s → (ws : List Withdrawal) → (run t s ws).state ≡ encode (all_at_once (policy_of t) (decode s) ws)
run_leaves t s h [] = sym (ap encode (none-taken (policy_of t) (decode s) (sound-decode (policy_of t) s h.state)) ∙ encode-decode s (sound_formed (policy_of t) s h.state))
run_leaves t s h (w ∷ ws) =
    run_leaves t (answer t s [] (call_of w)).state (still-sound t s h w) ws
    ∙ ap (λ (x : State). encode (all_at_once (policy_of t) x ws)) (one_withdrawal t s h w)
    ∙ ap encode (in_turn (policy_of t) (decode s) (w ∷ []) ws (sound-decode (policy_of t) s h.state))

pub run-rows : (t : Tables) (s : List ℕ) → Sound t s → (ws : List Withdrawal) → decode (run t s ws).state ≡ all_at_once (policy_of t) (decode s) ws
run-rows t s h ws = ap decode (run_leaves t s h ws) ∙ decode-encode _ (all-at-once-sound (policy_of t) (decode s) ws (sound-decode (policy_of t) s h.state)).fits

pub order_free : (p : Policy) (t : State) {ws vs : List Withdrawal} → Permᴰ ws vs → all_at_once p t ws ≡ all_at_once p t vs
unfolding all_at_once
order_free p t {ws} {vs} d = ap (fallen p) (taken-same ws vs (λ test. any_order test d) t)

-- a list with some left out keeps every row that the whole list keeps
pub fewer_keep : (p : Policy) (t : State) (few many : List Withdrawal) → SoundState p t → Fewer few many → Sublistᴰ (all_at_once p t many).rows (all_at_once p t few).rows
unfolding taken_away gone_row
fewer_keep p t few many h sub =
    less_keeps_more (supported (world_of p (taken_away few t))) (supported (world_of p (taken_away many t))) (less_supports p (taken_away many t) (taken_away few t) (taken_less few many sub t)) (gone_row few) (gone_row many)
    (λ r n. unnamed few many sub (names_user_of r) n) t.rows _ _ (all_at_once_largest p t few h) (all_at_once_largest p t many h)

-- The second numbers add up: what a call reports lost is what the rows have lost, one by one and over any sequence of calls.
use Prim.Native.Nat.{ℕ, zero, suc, ◌+◌, ◌-◌}
use mathlib.Core.Path.{◌≡◌, refl, ap}
use mathlib.Core.Bool.{false}
use mathlib.Core.Logic.{◌≢◌, ◌⊎◌, inl, inr}
use mathlib.Core.List.{List, [], ◌∷◌, Sublistᴰ}
use native.Mathlib.Omega.{arith}
use lib.Dec.{eqb, eqb-suc-zero}
use lib.ListN.{length, length-append}
use Rattle.model.specs.Values.{Tables, Policy, State, world_of, with_fact}
use Rattle.model.specs.Layout.{policy_of, decode, encode}
use Rattle.model.specs.Conditions.{supported}
use Rattle.model.specs.Left.{left}
use Rattle.model.specs.Outcome.{Outcome, judged_first}
use Rattle.model.specs.Calls.{Call, fresh, activate, appoint, revoke, withdraw, environment, logout, invoke, effective, chain, nothing, of_user, without_certificate, settled, lowest_rule, activate_on, appoint_on, revoke_on, withdraw_on, environment_on, logout_on, invoke_on, effective_on, chain_on, fresh_on, course_of, answer}
use Rattle.model.specs.Withdrawals.{Withdrawal, fact_false, certificate_gone, logged_out, call_of, run}
use Rattle.model.specs.declared.Row.{Row}
use Rattle.model.specs.Words.{Unchanged, active_count}
use Rattle.model.specs.Tally.{Made, Tally, granted_after, lost_after, next, tally_from, tally}
use Rattle.model.proofs.Parts.{part_length, without-part}
use Rattle.model.proofs.Sweep.{left-part}
use Rattle.model.proofs.Refusals.{accepted_or_refused, refused_unchanged, accepted_done}
use Rattle.model.proofs.Accepted.{effect_decoded}

-- the rows lost are the rows before less those left: of a sweep, and of a logout
lost_and_left : (rest rows : List Row) → Sublistᴰ rest rows → (length rows - length rest) + length rest ≡ length rows
lost_and_left rest rows d = omega (arith, part_length rest rows d)

swept_count : (p : Policy) (t : State) → (length t.rows - length (left (supported (world_of p t)) t.rows)) + length (left (supported (world_of p t)) t.rows) ≡ length t.rows
swept_count p t = lost_and_left _ _ (left-part (supported (world_of p t)) t.rows)

-- ── one call ──

module _ (t : Tables) (s list : List ℕ) (granted lost : ℕ) (even : granted ≡ lost + active_count s) where
  abbrev Even : Call → Type 0
  Even c = granted_after granted (answer t s list c) c ≡ lost_after lost (answer t s list c) c + active_count (answer t s list c).state

  -- a refusal changes no count
  refused_even : (c : Call) → (answer t s list c).code ≢ 0 → Even c
  unfolding granted_after lost_after
  refused_even c n = go c (answer t s list c) n (refused_unchanged t s list c n)
    where
      not_accepted : (k : ℕ) → k ≢ 0 → eqb k 0 ≡ false
      not_accepted zero h = absurd (h refl)
      not_accepted (suc k) h = eqb-suc-zero k

      go : (c : Call) (o : Outcome) → o.code ≢ 0 → Unchanged s list o → granted_after granted o c ≡ lost_after lost o c + active_count o.state
      go fresh o h same = rw (not_accepted o.code h, same.state_same) even
      go (activate u q) o h same = rw (not_accepted o.code h, same.state_same) (omega (arith, even))
      go (appoint a b k) o h same = rw same.state_same even
      go (revoke x a k b) o h same = rw (same.state_same, same.second_zero) (omega (arith, even))
      go (withdraw a k b) o h same = rw (same.state_same, same.second_zero) (omega (arith, even))
      go (environment f v) o h same = rw (same.state_same, same.second_zero) (omega (arith, even))
      go (logout u) o h same = rw (same.state_same, same.second_zero) (omega (arith, even))
      go (invoke u x) o h same = rw same.state_same even
      go (effective u q x) o h same = rw same.state_same even
      go (chain u q) o h same = rw same.state_same even

  -- an accepted call: the rows of its effect, and its second number
  rows-after : (c : Call) → (answer t s list c).code ≡ 0 → active_count (answer t s list c).state ≡ length (course_of t s list c).effect.state.rows
  rows-after c e = ap (λ (x : State). length x.rows) (effect_decoded t s list c e)

  accepted_even : (c : Call) → (answer t s list c).code ≡ 0 → Even c
  unfolding granted_after lost_after course_of judged_first fresh_on activate_on appoint_on revoke_on withdraw_on environment_on logout_on invoke_on effective_on chain_on settled
  accepted_even fresh e = rw (e, rows-after fresh e) refl
  accepted_even (activate u q) e = rw (e, rows-after (activate u q) e) (omega (arith, even, length-append (decode s).rows (record { user = u; role = q; rule = lowest_rule (policy_of t) (decode s) u q } ∷ [])))
  accepted_even (appoint a b k) e = rw (rows-after (appoint a b k) e) even
  accepted_even (revoke x a k b) e = rw (rows-after (revoke x a k b) e, (accepted_done t s list (revoke x a k b) e).second_told) (omega (arith, even, swept_count (policy_of t) (without_certificate (decode s) (record { appointee = a; kind = k; appointer = b }))))
  accepted_even (withdraw a k b) e = rw (rows-after (withdraw a k b) e, (accepted_done t s list (withdraw a k b) e).second_told) (omega (arith, even, swept_count (policy_of t) (without_certificate (decode s) (record { appointee = a; kind = k; appointer = b }))))
  accepted_even (environment f v) e = rw (rows-after (environment f v) e, (accepted_done t s list (environment f v) e).second_told) (omega (arith, even, swept_count (policy_of t) (with_fact (decode s) f v)))
  accepted_even (logout u) e = rw (rows-after (logout u) e, (accepted_done t s list (logout u) e).second_told) (omega (arith, even, lost_and_left _ _ (without-part (of_user u) (decode s).rows)))
  accepted_even (invoke u x) e = rw (rows-after (invoke u x) e) even
  accepted_even (effective u q x) e = rw (rows-after (effective u q x) e) even
  accepted_even (chain u q) e = rw (rows-after (chain u q) e) even

  call_even : (c : Call) → Even c
  call_even c = go (accepted_or_refused t s list c)
    where
      go : ((answer t s list c).code ≡ 0) ⊎ ((answer t s list c).code ≢ 0) → Even c
      go (inl e) = accepted_even c e
      go (inr n) = refused_even c n

-- ── any sequence ──

next_even : (t : Tables) (k : Tally) (m : Made) → k.granted ≡ k.lost + active_count k.state → (next t k m).granted ≡ (next t k m).lost + active_count (next t k m).state
unfolding next
next_even t k m e = call_even t k.state m.list k.granted k.lost e m.call

tally_even : (t : Tables) (k : Tally) (ms : List Made) → k.granted ≡ k.lost + active_count k.state → (tally_from t k ms).granted ≡ (tally_from t k ms).lost + active_count (tally_from t k ms).state
tally_even t k [] e = e
tally_even t k (m ∷ ms) e = tally_even t (next t k m) ms (next_even t k m e)

pub balance : (t : Tables) (ms : List Made) → (tally t ms).granted ≡ (tally t ms).lost + active_count (tally t ms).state
unfolding decode encode
balance t ms = tally_even t (record { granted = 0; lost = 0; state = encode nothing }) ms refl

-- ── withdrawals ──

-- a withdrawal reports what its call has lost, and grants nothing
withdrawal_loses : (t : Tables) (s : List ℕ) (w : Withdrawal) → (answer t s [] (call_of w)).second + active_count (answer t s [] (call_of w)).state ≡ active_count s
unfolding granted_after lost_after
withdrawal_loses t s (fact_false f) = omega (arith, call_even t s [] (active_count s) 0 (omega arith) (environment f 0))
withdrawal_loses t s (certificate_gone c) = omega (arith, call_even t s [] (active_count s) 0 (omega arith) (withdraw c.appointee c.kind c.appointer))
withdrawal_loses t s (logged_out u) = omega (arith, call_even t s [] (active_count s) 0 (omega arith) (logout u))

pub run_loses : (t : Tables) (s : List ℕ) (ws : List Withdrawal) → (run t s ws).lost + active_count (run t s ws).state ≡ active_count s
run_loses t s [] = omega arith
run_loses t s (w ∷ ws) = omega (arith, withdrawal_loses t s w, run_loses t (answer t s [] (call_of w)).state ws)

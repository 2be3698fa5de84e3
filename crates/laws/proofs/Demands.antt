-- What is proved of the definitions, on one page. Each law is a sentence over the words of crates/model/specs, and is proved by
-- citing the file of crates/model/proofs that did the work.
use Prim.Native.Nat.{ℕ, ◌+◌, ◌<◌}
use mathlib.Core.Path.{◌≡◌, sym, ap, ◌∙◌, subst⁻¹, subst₂}
use mathlib.Core.Bool.{Bool, not}
use mathlib.Core.Logic.{◌≢◌, ◌↔◌}
use mathlib.Core.List.{List, Memᴰ, Permᴰ, Sublistᴰ}
use native.Mathlib.Omega.{arith}
use lib.Dec.{T}
use lib.ListN.{replicate}
use Rattle.model.specs.Limits.{users, roles, privileges, most_rows, state_size, accepted}
use Rattle.model.specs.Values.{Tables, Policy, State, world_of}
use Rattle.model.specs.Layout.{policy_of, decode, encode}
use Rattle.model.specs.Conditions.{is_row, active, supported, rests_on}
use Rattle.model.specs.Left.{Largest}
use Rattle.model.specs.Sound.{sound}
use Rattle.model.specs.Effective.{direct, Carries}
use Rattle.model.specs.Outcome.{Refusal, Outcome, Keeps}
use Rattle.model.specs.Calls.{Call, activate, invoke, effective, course_of, answer}
use Rattle.model.specs.Withdrawals.{Withdrawal, run, all_at_once}
use Rattle.model.specs.Held.{held}
use Rattle.model.specs.Words.{Sound, SoundState, FirstApplies, Unchanged, SatisfiedNow, Granted, CarriedNow, active_count}
use Rattle.model.specs.Tally.{Made, tally}
use Rattle.model.specs.declared.Row.{Row}
use Rattle.model.proofs.Parts.{part-member}
use Rattle.model.proofs.Numbers.{decode-encode, encode-decode, sound_formed, sound-decode}
use Rattle.model.proofs.Refusals.{first-applies, only-first, answer-code, refused_unchanged, kept-once}
use Rattle.model.proofs.Accepted.{zeros-sound, accepted-sound, accepted_largest}
use Rattle.model.proofs.Carried.{carried-allowed, carries-least}
use Rattle.model.proofs.Sweep.{one_largest}
use Rattle.model.proofs.Grants.{rule_gives_grant, granted, invoke-accepted, invoked_one, carried_invoked, effective_one}
use Rattle.model.proofs.Orders.{run_leaves, run-rows, order_free, fewer_keep}
use Rattle.model.proofs.Counts.{run_loses, balance}

-- ── Demand 1: any tables, any numbers ──

-- whenever the code is not 0, the second number is 0 and the state and the list are what they were
pub refusal_changes_nothing : (t : Tables) (s list : List ℕ) (c : Call) → (answer t s list c).code ≢ accepted → Unchanged s list (answer t s list c)
refusal_changes_nothing = refused_unchanged

-- the code of every call is that of the first of its refusals that applies, and 0 if none does
pub the_first_that_applies : (t : Tables) (s list : List ℕ) (c : Call) → FirstApplies (course_of t s list c).refusals (answer t s list c).code
the_first_that_applies t s list c = subst⁻¹ (λ (n : ℕ). FirstApplies (course_of t s list c).refusals n) (answer-code t s list c) (first-applies (course_of t s list c).refusals)

-- only one code is the first that applies
pub no_other_is_first : (rs : List Refusal) (m n : ℕ) → FirstApplies rs m → FirstApplies rs n → m ≡ n
no_other_is_first rs m n a b = only-first a ∙ sym (only-first b)

-- ── Soundness is kept ──

-- all zeros is sound, under every policy
pub zeros_are_sound : (p : Policy) → T (sound p (replicate state_size 0))
zeros_are_sound = zeros-sound

-- every accepted call leaves a sound state
pub accepted_leaves_sound : (t : Tables) (s list : List ℕ) (c : Call) → (answer t s list c).code ≡ accepted → T (sound (policy_of t) (answer t s list c).state)
accepted_leaves_sound = accepted-sound

-- encoding and decoding undo each other on sound states
pub encode_undoes_decode : (p : Policy) (s : List ℕ) → T (sound p s) → encode (decode s) ≡ s
encode_undoes_decode p s h = encode-decode s (sound_formed p s h)

pub decode_undoes_encode : (p : Policy) (t : State) → SoundState p t → decode (encode t) ≡ t
decode_undoes_encode p t h = decode-encode t h.fits

-- ── Demand 2: what is granted, what stays, what is allowed ──

-- (a) on sound tables a role in range, not active and with room left is granted exactly if some rule for it is satisfied now
pub granted_exactly_if : (t : Tables) (s list : List ℕ) (u q : ℕ) → Sound t s → u < users → q < roles → T (not (active (decode s).rows u q)) → active_count s < most_rows
    → ((answer t s list (activate u q)).code ≡ accepted) ↔ ((i : ℕ) × SatisfiedNow t s u q i)
granted_exactly_if t s list u q h a b new room = (λ e. ((answer t s list (activate u q)).second, (granted t s list u q e).satisfied_now), rule_gives_grant t s list u q h a b new room)

-- and the row records the lowest such rule
pub granted_by_the_lowest : (t : Tables) (s list : List ℕ) (u q : ℕ) → (answer t s list (activate u q)).code ≡ accepted → Granted t s u q (answer t s list (activate u q))
granted_by_the_lowest = granted

-- (b) after each accepted call the active rows are the largest supported part of those held
pub after_each_call_the_largest : (t : Tables) (s list : List ℕ) (c : Call) → (answer t s list c).code ≡ accepted
    → Largest (supported (world_of (policy_of t) (decode (answer t s list c).state))) (held (policy_of t) (decode s) c) (decode (answer t s list c).state).rows
after_each_call_the_largest = accepted_largest

-- and no other part is: the words leave no choice
pub only_one_is_largest : (supports : List Row → Row → Bool) (held xs ys : List Row) → Largest supports held xs → Largest supports held ys → xs ≡ ys
only_one_is_largest = one_largest

-- (c) an invocation is accepted, and answers 1 exactly if an active role of the user carries the privilege
pub allowed_exactly_if : (t : Tables) (s list : List ℕ) (u x : ℕ) → Sound t s → u < users → x < privileges
    → ((answer t s list (invoke u x)).code ≡ accepted) × (((answer t s list (invoke u x)).second ≡ 1) ↔ CarriedNow t s u x)
allowed_exactly_if t s list u x h a b = (invoke-accepted t s list u x h a b, invoked_one t s list u x h a b)

-- (d) effective answers 1 exactly if the role carries the privilege by definition 10
pub effective_is_definition_10 : (t : Tables) (s list : List ℕ) (u x : ℕ) → Sound t s → u < users → x < privileges → (q : ℕ) → q < roles → T (active (decode s).rows u q)
    → ((answer t s list (effective u q x)).second ≡ 1) ↔ Carries (policy_of t) (decode s).rows u x q
effective_is_definition_10 = effective_one

-- and that is the least set closed as definition 10 says
pub definition_10_is_least : (p : Policy) (rows : List Row) (u x : ℕ) (Set : ℕ → Type 0)
    → ((q : ℕ) (r : Row) → Memᴰ r rows → T (is_row u q r) → T (direct p q x) → Set q)
    → ((q : ℕ) (r : Row) → Memᴰ r rows → T (is_row u q r) → (lower : ℕ) → Memᴰ lower (rests_on p r) → Set lower → Set q)
    → {q : ℕ} → Carries p rows u x q → Set q
definition_10_is_least = carries-least

-- a user active in a role holds all of the role's effective privileges
pub effective_privileges_are_held : (t : Tables) (s list : List ℕ) (u x : ℕ) → Sound t s → u < users → x < privileges → {q : ℕ} → Carries (policy_of t) (decode s).rows u x q → (answer t s list (invoke u x)).second ≡ 1
effective_privileges_are_held t s list u x h a b c = carried_invoked t s list u x h a b (carried-allowed (policy_of t) (decode s).rows u x c)

-- ── Demand 3: withdrawals in any order ──

module _ (t : Tables) (s : List ℕ) (h : Sound t s) where
  -- a list ends in what is left when all of it is taken away at once
  pub ends_as_all_at_once : (ws : List Withdrawal) → (run t s ws).state ≡ encode (all_at_once (policy_of t) (decode s) ws)
  ends_as_all_at_once = run_leaves t s h

  -- any two orders of a list end in the same numbers
  pub any_order_ends_alike : {ws vs : List Withdrawal} → Permᴰ ws vs → (run t s ws).state ≡ (run t s vs).state
  any_order_ends_alike {ws} {vs} d = run_leaves t s h ws ∙ ap encode (order_free (policy_of t) (decode s) d) ∙ sym (run_leaves t s h vs)

  -- and report the same total of roles lost
  pub any_order_loses_alike : {ws vs : List Withdrawal} → Permᴰ ws vs → (run t s ws).lost ≡ (run t s vs).lost
  any_order_loses_alike {ws} {vs} d = omega (arith, run_loses t s ws, run_loses t s vs, ap active_count (any_order_ends_alike d))

  -- the total is what the state has lost
  pub total_is_what_was_lost : (ws : List Withdrawal) → (run t s ws).lost + active_count (run t s ws).state ≡ active_count s
  total_is_what_was_lost = run_loses t s

  -- a list with some left out never loses a row that the full list keeps, and the rows keep their order
  pub fewer_withdrawals_keep_more : (few many : List Withdrawal) → Sublistᴰ few many → Sublistᴰ (decode (run t s many).state).rows (decode (run t s few).state).rows
  fewer_withdrawals_keep_more few many d =
      subst₂ (λ (a b : State). Sublistᴰ a.rows b.rows) (sym (run-rows t s h many)) (sym (run-rows t s h few))
      (fewer_keep (policy_of t) (decode s) few many (sound-decode (policy_of t) s h.state) (λ w m. part-member w few many d m))

-- ── One outcome, and the balance ──

-- the promise of a public call allows one outcome
pub one_outcome : (o : Outcome) (code₁ second₁ code₂ second₂ : ℕ) (state₁ list₁ state₂ list₂ : List ℕ) → Keeps o code₁ second₁ state₁ list₁ → Keeps o code₂ second₂ state₂ list₂
    → (code₁ ≡ code₂) × (second₁ ≡ second₂) × (state₁ ≡ state₂) × (list₁ ≡ list₂)
one_outcome = kept-once

-- from fresh, under one policy, over any calls: activations accepted are roles reported lost and the active count together
pub grants_less_losses : (t : Tables) (calls : List Made) → (tally t calls).granted ≡ (tally t calls).lost + active_count (tally t calls).state
grants_less_losses = balance

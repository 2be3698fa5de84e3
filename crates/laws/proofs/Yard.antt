-- A yard in which the laws bite: a sound policy and a sound state with a cascade of five layers, one of them through a certificate's
-- prerequisite role. It meets the premises of each law, and each law is instantiated at it, so that none is empty. Its numbers are its
-- own: the yard of the handbook and of the terminals is a smaller policy.
use Prim.Native.Nat.{ℕ, ◌+◌, ◌<◌}
use mathlib.Core.Path.{◌≡◌, refl, ◌∙◌}
use mathlib.Core.Bool.{not}
use mathlib.Core.Logic.{◌↔◌}
use mathlib.Core.List.{List, [], ◌∷◌, ◌++◌, Permᴰ, Sublistᴰ}
use native.Mathlib.Omega.{arith}
use lib.Dec.{T}
use lib.ListN.{replicate}
use Rattle.model.specs.Values.{Tables, world_of}
use Rattle.model.specs.Layout.{policy_of, decode, encode}
use Rattle.model.specs.Conditions.{meant, active, some_stands, holds, satisfied, supported, roles_asked, rests_on}
use Rattle.model.specs.Left.{left, Largest}
use Rattle.model.specs.Sound.{condition_fits, rule_clauses, kind_clauses, right_clauses, policy_clauses, row_clauses, certificate_clauses, form_clauses, sound_values, sound}
use Rattle.model.specs.Effective.{direct, effectively, Carries}
use Rattle.model.specs.Outcome.{Outcome, Keeps, judged_first, decided}
use Rattle.model.specs.Calls.{Call, activate, environment, invoke, effective, settled, activate_on, withdraw_on, environment_on, logout_on, effective_on, course_of, answer}
use Rattle.model.specs.Withdrawals.{Withdrawal, fact_false, certificate_gone, logged_out, run, all_at_once}
use Rattle.model.specs.Held.{held}
use Rattle.model.specs.Words.{Sound, FirstApplies, Unchanged, SatisfiedNow, Granted, CarriedNow, active_count}
use Rattle.model.specs.Tally.{Made, granted_after, lost_after, next, tally}
use Rattle.model.proofs.Support.{of_active}
use Rattle.model.proofs.Numbers.{sound-decode}
use Rattle.model.specs.declared.Row.{Row}
use Rattle.laws.proofs.Demands.{only_one_is_largest, refusal_changes_nothing, the_first_that_applies, no_other_is_first, zeros_are_sound, accepted_leaves_sound, encode_undoes_decode, decode_undoes_encode, granted_exactly_if, granted_by_the_lowest, after_each_call_the_largest, allowed_exactly_if, effective_is_definition_10, definition_10_is_least, effective_privileges_are_held, ends_as_all_at_once, any_order_ends_alike, any_order_loses_alike, total_is_what_was_lost, fewer_withdrawals_keep_more, one_outcome, grants_less_losses}

-- ── the yard ──

-- Role 9 is the foreman. Role 1 is on duty while the yard is open (fact 0); role 2, the technician, asks for role 1 and an appointment
-- of kind 0, which itself asks for role 1; role 3 reads the dashboard, role 4 has checked the wipe; role 5 closes the job on an
-- appointment of kind 1, which asks for role 4. Privilege 7 is reading the messages, 8 is closing
yard : Tables
yard =
    record {
      rules =
          (1 ∷ 1 ∷ 1 ∷ 384 ∷ replicate 7 0)
          ++ (2 ∷ 2 ∷ 2 ∷ 1 ∷ 256 ∷ replicate 6 0)
          ++ (3 ∷ 1 ∷ 1 ∷ 2 ∷ replicate 7 0)
          ++ (4 ∷ 1 ∷ 1 ∷ 3 ∷ replicate 7 0)
          ++ (5 ∷ 1 ∷ 1 ∷ 257 ∷ replicate 7 0)
          ++ (9 ∷ 0 ∷ 0 ∷ replicate 8 0);
      kinds = (9 ∷ 0 ∷ 1 ∷ 1 ∷ replicate 3 0) ++ (9 ∷ 0 ∷ 1 ∷ 4 ∷ replicate 3 0);
      rights = 3 ∷ 7 ∷ 5 ∷ 8 ∷ [];
    }

-- the yard is open; the foreman is user 10, and the technician, user 20, has come all the way
midday : List ℕ
midday =
    (1 ∷ replicate 63 0)
    ++ (6 ∷ 10 ∷ 9 ∷ 5 ∷ 20 ∷ 1 ∷ 0 ∷ 20 ∷ 2 ∷ 1 ∷ 20 ∷ 3 ∷ 2 ∷ 20 ∷ 4 ∷ 3 ∷ 20 ∷ 5 ∷ 4 ∷ replicate 750 0)
    ++ (2 ∷ 20 ∷ 0 ∷ 10 ∷ 20 ∷ 1 ∷ 10 ∷ replicate 762 0)

sound_yard : Sound yard midday
unfolding yard midday policy_of decode meant active some_stands holds supported condition_fits rule_clauses kind_clauses right_clauses policy_clauses row_clauses certificate_clauses form_clauses sound_values sound
sound_yard = record { policy = tt; state = tt }

-- what a call answers at midday, by computation
abbrev at_midday : Call → Outcome
at_midday c = answer yard midday [] c

-- ── demand 1 ──

-- the technician is on duty already
active_already : (at_midday (activate 20 1)).code ≡ 4
unfolding yard midday policy_of decode encode meant active some_stands holds satisfied supported left condition_fits rule_clauses kind_clauses right_clauses policy_clauses row_clauses certificate_clauses form_clauses sound_values sound judged_first decided activate_on course_of answer
active_already = refl

yard_refusal : Unchanged midday [] (at_midday (activate 20 1))
yard_refusal = refusal_changes_nothing yard midday [] (activate 20 1) (λ e. absurd (omega (arith, active_already)))

yard_first : FirstApplies (course_of yard midday [] (activate 20 1)).refusals (at_midday (activate 20 1)).code
yard_first = the_first_that_applies yard midday [] (activate 20 1)

-- and no other code is the first that applies
yard_only : (n : ℕ) → FirstApplies (course_of yard midday [] (activate 20 1)).refusals n → n ≡ 4
yard_only n f = no_other_is_first (course_of yard midday [] (activate 20 1)).refusals n (at_midday (activate 20 1)).code f yard_first ∙ active_already

-- the state before the first call of the day
yard_zeros : T (sound (policy_of yard) (replicate 1602 0))
yard_zeros = zeros_are_sound (policy_of yard)

-- ── the cascade ──

-- the yard is closed: five roles fall, each on the one below it, and the foreman stays
closed : ((at_midday (environment 0 0)).code ≡ 0) × ((at_midday (environment 0 0)).second ≡ 5) × ((decode (at_midday (environment 0 0)).state).rows ≡ record { user = 10; role = 9; rule = 5 } ∷ [])
unfolding yard midday policy_of decode encode meant active some_stands holds satisfied supported left condition_fits rule_clauses kind_clauses right_clauses policy_clauses row_clauses certificate_clauses form_clauses sound_values sound judged_first decided settled environment_on course_of answer
closed = (refl, refl, refl)

yard_sound : T (sound (policy_of yard) (at_midday (environment 0 0)).state)
yard_sound = accepted_leaves_sound yard midday [] (environment 0 0) closed.0

yard_largest : Largest (supported (world_of (policy_of yard) (decode (at_midday (environment 0 0)).state))) (held (policy_of yard) (decode midday) (environment 0 0)) (decode (at_midday (environment 0 0)).state).rows
yard_largest = after_each_call_the_largest yard midday [] (environment 0 0) closed.0

yard_one_largest : (rows : List Row) → Largest (supported (world_of (policy_of yard) (decode (at_midday (environment 0 0)).state))) (held (policy_of yard) (decode midday) (environment 0 0)) rows → rows ≡ (decode (at_midday (environment 0 0)).state).rows
yard_one_largest rows l = only_one_is_largest _ _ rows _ l yard_largest

yard_encoded : encode (decode midday) ≡ midday
yard_encoded = encode_undoes_decode (policy_of yard) midday sound_yard.state

yard_decoded : decode (encode (decode midday)) ≡ decode midday
yard_decoded = decode_undoes_encode (policy_of yard) (decode midday) (sound-decode (policy_of yard) midday sound_yard.state)

-- ── demand 2 ──

-- user 30 may come on duty: rule 0 is satisfied
on_duty : SatisfiedNow yard midday 30 1 0
unfolding yard midday policy_of decode meant active some_stands holds satisfied
on_duty = record { exists = omega arith; holds_now = tt }

not_yet : T (not (active (decode midday).rows 30 1)) × (active_count midday < 256)
unfolding midday decode active
not_yet = (tt, omega arith)

yard_granted : (at_midday (activate 30 1)).code ≡ 0
yard_granted = (granted_exactly_if yard midday [] 30 1 sound_yard (omega arith) (omega arith) not_yet.0 not_yet.1).1 (0, on_duty)

yard_lowest : Granted yard midday 30 1 (at_midday (activate 30 1))
yard_lowest = granted_by_the_lowest yard midday [] 30 1 yard_granted

yard_allowed : ((at_midday (invoke 20 7)).code ≡ 0) × (((at_midday (invoke 20 7)).second ≡ 1) ↔ CarriedNow yard midday 20 7)
yard_allowed = allowed_exactly_if yard midday [] 20 7 sound_yard (omega arith) (omega arith)

-- role 5 carries the reading of role 3, through the prerequisite role of its certificate
closer : T (active (decode midday).rows 20 5) × ((at_midday (effective 20 5 7)).second ≡ 1)
unfolding yard midday policy_of decode encode meant active some_stands holds satisfied supported roles_asked rests_on left condition_fits rule_clauses kind_clauses right_clauses policy_clauses row_clauses certificate_clauses form_clauses sound_values sound direct effectively judged_first decided effective_on course_of answer
closer = (tt, refl)

yard_carries : Carries (policy_of yard) (decode midday).rows 20 7 5
yard_carries = (effective_is_definition_10 yard midday [] 20 7 sound_yard (omega arith) (omega arith) 5 (omega arith) closer.0).0 closer.1

yard_held : (at_midday (invoke 20 7)).second ≡ 1
yard_held = effective_privileges_are_held yard midday [] 20 7 sound_yard (omega arith) (omega arith) yard_carries

-- the roles in which the user is active are closed as definition 10 says, so every role that carries reading is among them
yard_least : T (active (decode midday).rows 20 5)
yard_least = definition_10_is_least (policy_of yard) (decode midday).rows 20 7 (λ q. T (active (decode midday).rows 20 q)) (λ q r m i d. of_active (decode midday).rows 20 q r m i) (λ q r m i lower k c. of_active (decode midday).rows 20 q r m i) yard_carries

-- ── demand 3 ──

-- the closing list: the technician's appointment, a certificate that does not stand, the foreman's session, the same appointment once
-- more, a user and a fact that do not exist, and the yard itself
appointment : Withdrawal
appointment = certificate_gone (record { appointee = 20; kind = 0; appointer = 10 })

nobody's : Withdrawal
nobody's = certificate_gone (record { appointee = 21; kind = 0; appointer = 10 })

closing : List Withdrawal
closing = appointment ∷ nobody's ∷ logged_out 10 ∷ appointment ∷ logged_out 5000 ∷ fact_false 64 ∷ fact_false 0 ∷ []

other_way : List Withdrawal
other_way = nobody's ∷ appointment ∷ logged_out 10 ∷ logged_out 5000 ∷ appointment ∷ fact_false 0 ∷ fact_false 64 ∷ []

another_order : Permᴰ closing other_way
unfolding closing other_way
another_order =
    Permᴰ.trans (Permᴰ.swap refl refl)
    (Permᴰ.cons refl (Permᴰ.cons refl (Permᴰ.cons refl (Permᴰ.trans (Permᴰ.swap refl refl) (Permᴰ.cons refl (Permᴰ.cons refl (Permᴰ.swap refl refl)))))))

yard_orders : (run yard midday closing).state ≡ (run yard midday other_way).state
yard_orders = any_order_ends_alike yard midday sound_yard another_order

yard_totals : (run yard midday closing).lost ≡ (run yard midday other_way).lost
yard_totals = any_order_loses_alike yard midday sound_yard another_order

yard_at_once : (run yard midday closing).state ≡ encode (all_at_once (policy_of yard) (decode midday) closing)
yard_at_once = ends_as_all_at_once yard midday sound_yard closing

-- the appointment alone costs roles 2 to 5, the whole list all six
handover : ((run yard midday (appointment ∷ [])).lost ≡ 4) × ((run yard midday closing).lost ≡ 6)
unfolding yard midday appointment nobody's closing policy_of decode encode meant active some_stands holds satisfied supported left condition_fits rule_clauses kind_clauses right_clauses policy_clauses row_clauses certificate_clauses form_clauses sound_values sound judged_first decided settled withdraw_on environment_on logout_on course_of answer
handover = (refl, refl)

yard_lost : (run yard midday closing).lost + active_count (run yard midday closing).state ≡ active_count midday
yard_lost = total_is_what_was_lost yard midday sound_yard closing

-- without the first entry and the yard's closing
part_of_it : List Withdrawal
part_of_it = nobody's ∷ logged_out 10 ∷ []

yard_fewer : Sublistᴰ (decode (run yard midday closing).state).rows (decode (run yard midday part_of_it).state).rows
unfolding closing part_of_it
yard_fewer = fewer_withdrawals_keep_more yard midday sound_yard part_of_it closing (Sublistᴰ.cons (Sublistᴰ.cons-cons refl (Sublistᴰ.cons-cons refl (Sublistᴰ.cons (Sublistᴰ.cons (Sublistᴰ.cons (Sublistᴰ.cons Sublistᴰ.slnil)))))))

-- ── one outcome, and the balance ──

yard_outcome : (code second : ℕ) (state list : List ℕ) → Keeps (at_midday (environment 0 0)) code second state list → second ≡ 5
yard_outcome code second state list k =
    (one_outcome (at_midday (environment 0 0)) code second (at_midday (environment 0 0)).code (at_midday (environment 0 0)).second state list (at_midday (environment 0 0)).state (at_midday (environment 0 0)).list k (record { code_kept = refl; second_kept = refl; state_kept = refl; list_kept = refl })).1
    ∙ closed.1

-- a morning: the foreman and the technician come, and the yard closes again
morning : List Made
morning =
    record { call = environment 0 1; list = [] }
    ∷ record { call = activate 10 9; list = [] }
    ∷ record { call = activate 20 1; list = [] }
    ∷ record { call = environment 0 0; list = [] }
    ∷ []

counted : ((tally yard morning).granted ≡ 2) × ((tally yard morning).lost ≡ 1)
unfolding yard morning granted_after lost_after next policy_of decode encode meant active some_stands holds satisfied supported left condition_fits rule_clauses kind_clauses right_clauses policy_clauses row_clauses certificate_clauses form_clauses sound_values sound judged_first decided settled activate_on environment_on course_of answer
counted = (refl, refl)

yard_balance : active_count (tally yard morning).state ≡ 1
yard_balance = omega (arith, grants_less_losses yard morning, counted.0, counted.1)

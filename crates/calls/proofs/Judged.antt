-- Judged first: an unsound table is a refusal of every call, and what is left are sound tables.
use Prim.Native.Nat.{ℕ, ◌/◌, ◌≤◌}
use mathlib.Core.Path.{◌≡◌, sym, ap, ◌∙◌, subst⁻¹}
use mathlib.Core.Bool.{Bool, true, false, not, cond}
use mathlib.Core.Logic.{◌≢◌}
use mathlib.Core.List.{List, [], ◌∷◌}
use native.Mathlib.Omega.{arith}
use lib.Dec.{T, eqb}
use lib.ListN.{length}
use borrow.Author.Tests.{ne_eqb}
use Rattle.model.specs.Values.{Tables}
use Rattle.model.specs.Layout.{policy_of, kind_from}
use Rattle.model.specs.Sound.{sound_policy, sound}
use Rattle.model.specs.Outcome.{Refusal, first_code, Course, judged_first}
use Rattle.model.specs.Calls.{Call, fresh, fresh_on, course_of}
use Rattle.model.specs.Words.{Sound, FirstApplies, here, later}
use Rattle.std.proofs.Common.{Err}
use Rattle.std.specs.Result.{IsErrAnd}
use Rattle.std.proofs.lemmas.Result.{err_from_is_err_and}
use Rattle.model.specs.Answered.{Answer, code_of}
use Rattle.model.specs.declared.Reason.{Reason}
use Rattle.model.specs.declared.Reason.TheVariants.{UnsoundState}
use Rattle.model.proofs.Tests.{of_false, of_true}
use Rattle.table.proofs.Entries.{length-entries}
use Rattle.inner.specs.Promise.{lent, AnswersWith, Answers}
use Rattle.inner.proofs.Codes.{not_accepted, refuses, sound-kinds}
use Rattle.calls.specs.Judgement.{judgement}

-- a code given before a call's own refusals is the first that applies
first_judged : (a b : Bool) (rs : List Refusal) (n : ℕ) → n ≢ 0 → n ≡ first_code (record { applies = not a; code = 1 } ∷ record { applies = not b; code = 2 } ∷ []) → FirstApplies (record { applies = not a; code = 1 } ∷ record { applies = not b; code = 2 } ∷ rs) n
first_judged true true rs n z e = absurd (z e)
first_judged true false rs n z e = subst⁻¹ (λ (k : ℕ). FirstApplies (record { applies = false; code = 1 } ∷ record { applies = true; code = 2 } ∷ rs) k) e (later tt (here tt))
first_judged false b rs n z e = subst⁻¹ (λ (k : ℕ). FirstApplies (record { applies = true; code = 1 } ∷ record { applies = not b; code = 2 } ∷ rs) k) e (here tt)

pub unsound : (t : Tables) (s list : List ℕ) (c : Call) (course : Course) → course_of t s list c ≡ judged_first t s course → (reason : Reason) → code_of reason ≡ judgement t s → AnswersWith t s list c (Err reason) s list
unfolding judgement judged_first
unsound t s list c course is reason e =
    refuses t s list c reason (subst⁻¹ (λ (x : Course). FirstApplies x.refusals (code_of reason)) is (first_judged (sound_policy t) (sound (policy_of t) s) course.refusals (code_of reason) (λ z. omega (arith, not_accepted reason)) e))

-- the same of the refusal as `?` passes it on
pub unsound_passed : (t : Tables) (s list : List ℕ) (c : Call) (course : Course) → course_of t s list c ≡ judged_first t s course → (reason : Reason) (r : Answer) → IsErrAnd r (λ (x : Reason). x ≡ reason) → code_of reason ≡ judgement t s → AnswersWith t s list c r s list
unsound_passed t s list c course is reason r passed e =
    let p = err_from_is_err_and r passed in
    rw (p.1, p.2) (unsound t s list c course is reason e)

both : (a b : Bool) → 0 ≡ first_code (record { applies = not a; code = 1 } ∷ record { applies = not b; code = 2 } ∷ []) → T a × T b
both true true e = (tt, tt)
both true false e = absurd (omega arith)
both false b e = absurd (omega arith)

pub judged_sound : (t : Tables) (s : List ℕ) → 0 ≡ judgement t s → Sound t s
unfolding judgement
judged_sound t s e = let p = both (sound_policy t) (sound (policy_of t) s) e in record { policy = p.0; state = p.1 }

-- what code finds, as the judgement
pub no-policy : (t : Tables) (s : List ℕ) → sound_policy t ≡ false → 1 ≡ judgement t s
unfolding judgement
no-policy t s e = sym (ap (λ (b : Bool). cond (not b) 1 (cond (not (sound (policy_of t) s)) 2 0)) e)

pub no-state : (t : Tables) (s : List ℕ) → sound_policy t ≡ true → sound (policy_of t) s ≡ false → 2 ≡ judgement t s
unfolding judgement
no-state t s e f = sym (λ i. cond (not (e i)) 1 (cond (not (f i)) 2 0))

pub all_sound : (t : Tables) (s : List ℕ) → sound_policy t ≡ true → sound (policy_of t) s ≡ true → 0 ≡ judgement t s
unfolding judgement
all_sound t s e f = sym (λ i. cond (not (e i)) 1 (cond (not (f i)) 2 0))

-- the kinds of a sound policy as they are lent
pub lent-kinds : (t : Tables) → sound_policy t ≡ true → length t.kinds / 7 ≤ 128
unfolding policy_of
lent-kinds t e = omega (arith, sound-kinds t (of_true (sound_policy t) e), length-entries kind_from 7 t.kinds (length t.kinds / 7))

-- ── fresh ──

pub fresh-length : (s : List ℕ) → length s ≢ 1602 → Answers (lent [] [] []) s fresh (Err UnsoundState) s
unfolding course_of fresh_on
fresh-length s n = refuses (lent [] [] []) s [] fresh UnsoundState (here (of_false (eqb (length s) 1602) (ne_eqb (length s) 1602 n)))

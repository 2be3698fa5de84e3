-- From the tests that a call makes to the code that it answers.
use Prim.Native.Nat.{ℕ, zero, suc, ◌/◌, ◌≤◌, ◌<◌}
use mathlib.Core.Path.{◌≡◌, refl, sym, ap, ◌∙◌, subst⁻¹}
use mathlib.Core.Bool.{Bool, true, false, not, ◌&&◌, true≢false}
use mathlib.Core.List.{List, [], ◌∷◌}
use native.Mathlib.Omega.{arith}
use lib.Dec.{T, leb→le, lt→ltb}
use lib.ListN.{length, get_or}
use borrow.Author.Tests.{le-ltb}
use Rattle.model.specs.Lists.{every}
use Rattle.model.specs.Values.{Tables}
use Rattle.model.specs.Layout.{policy_of, decode, encode, row_count, rule_from, kind_from, row_from, row_numbers, certificate_count, certificate_from, certificate_numbers}
use Rattle.model.specs.Conditions.{active}
use Rattle.model.specs.Sound.{policy_clauses, sound_policy, well_formed, sound}
use Rattle.model.specs.Outcome.{Course, judged_first}
use Rattle.model.specs.Calls.{Call, has_row, course_of, answer}
use Rattle.model.specs.Words.{Sound, FirstApplies, later}
use Rattle.model.specs.Answered.{code_of}
use Rattle.model.specs.declared.Reason.{Reason}
use Rattle.model.specs.declared.Reason.TheVariants.{MalformedPolicy, UnsoundState, OutOfRange, AlreadyActive, NoRuleSatisfied, TableFull, NotInAppointerRole, StandsAlready, NoSuchCertificate, MayNotRevoke, NotActive}
use Rattle.std.proofs.Common.{Ok, Err}
use Rattle.model.proofs.Numbers.{sound_formed}
use Rattle.table.specs.Entries.{first_rows, Sized}
use Rattle.table.proofs.Entries.{length-entries, sized}
use Rattle.marks.specs.Owned.{InRange}
use Rattle.sound.proofs.Ranges.{sound_in_range}
use Rattle.inner.specs.Promise.{lent, AnswersWith}
use Rattle.model.proofs.Tests.{is_true, of_true, of_false, not_not_of, Each, each, of_each}
use Rattle.model.proofs.Refusals.{only-first, answer-code, refused_unchanged, accepted_done}

-- ── which refusal is first ──

-- on sound tables a call's own refusals decide
pub own_decide : (t : Tables) (s : List ℕ) → Sound t s → (c : Course) {n : ℕ} → FirstApplies c.refusals n → FirstApplies (judged_first t s c).refusals n
unfolding judged_first
own_decide t s h c f = later (not_not_of (sound_policy t) h.policy) (later (not_not_of (sound (policy_of t) s) h.state) f)

-- one clause of the ranges that is false, and all of them true
pub out_of_range_lem : (bs : List Bool) (i : ℕ) → get_or bs i true ≡ false → T (not (every bs))
out_of_range_lem bs i e = of_false (every bs) (some_false bs i e)
  where
    some_false : (bs : List Bool) (i : ℕ) → get_or bs i true ≡ false → every bs ≡ false
    some_false [] i e = absurd (true≢false e)
    some_false (b ∷ bs) zero e = ap (λ (v : Bool). v && every bs) e
    some_false (b ∷ bs) (suc i) e = go b (some_false bs i e)
      where
        go : (v : Bool) → every bs ≡ false → (v && every bs) ≡ false
        go true q = q
        go false q = refl

pub in_range : (bs : List Bool) → Each bs → T (not (not (every bs)))
in_range bs e = not_not_of (every bs) (of_each bs e)

-- what code found true: the refusal where it is false does not apply
pub found : (b : Bool) → b ≡ true → T (not (not b))
found b e = not_not_of b (of_true b e)

-- ── what is promised then ──

pub not_accepted : (reason : Reason) → 0 < code_of reason
not_accepted MalformedPolicy = omega arith
not_accepted UnsoundState = omega arith
not_accepted OutOfRange = omega arith
not_accepted AlreadyActive = omega arith
not_accepted NoRuleSatisfied = omega arith
not_accepted TableFull = omega arith
not_accepted NotInAppointerRole = omega arith
not_accepted StandsAlready = omega arith
not_accepted NoSuchCertificate = omega arith
not_accepted MayNotRevoke = omega arith
not_accepted NotActive = omega arith

module _ (t : Tables) (s list : List ℕ) (c : Call) where
  -- a refusal: the reason's code, zero, and what was lent
  pub refuses : (reason : Reason) → FirstApplies (course_of t s list c).refusals (code_of reason) → AnswersWith t s list c (Err reason) s list
  refuses reason f =
      let same : (answer t s list c).code ≡ code_of reason = answer-code t s list c ∙ sym (only-first f) in
      let u = refused_unchanged t s list c (λ z. let e : code_of reason ≡ 0 = sym same ∙ z in omega (arith, not_accepted reason)) in
      record { code_kept = sym same; second_kept = sym u.second_zero; state_kept = sym u.state_same; list_kept = sym u.list_same }

  -- acceptance: the effect
  pub accepts : (n : ℕ) (s' list' : List ℕ) → FirstApplies (course_of t s list c).refusals 0 → n ≡ (course_of t s list c).effect.second → s' ≡ encode (course_of t s list c).effect.state → list' ≡ (course_of t s list c).effect.list → AnswersWith t s list c (Ok n) s' list'
  accepts n s' list' f a b l =
      let d = accepted_done t s list c (answer-code t s list c ∙ sym (only-first f)) in
      record { code_kept = sym d.code_zero; second_kept = a ∙ sym d.second_told; state_kept = b ∙ sym d.state_left; list_kept = l ∙ sym d.list_left }

-- ── what sound tables are ──

pub sound_form : (t : Tables) (s : List ℕ) → Sound t s → well_formed s ≡ true
sound_form t s h = is_true (well_formed s) (sound_formed (policy_of t) s h.state)

pub sound-sized : (t : Tables) (s : List ℕ) → Sound t s → Sized s
sound-sized t s h = sized s (sound_form t s h)

-- a sound policy has at most 128 kinds
pub sound-kinds : (t : Tables) → T (sound_policy t) → length (policy_of t).kinds ≤ 128
unfolding policy_clauses
sound-kinds t h = leb→le (length (policy_of t).kinds) 128 (each (policy_clauses t) h).1.1.1.1.0

-- a sound state keeps the ranges
pub sound_range : (t : Tables) (s : List ℕ) → Sound t s → InRange s
sound_range t s h = sound_in_range (policy_of t) s (sound-kinds t h.policy) (is_true (sound (policy_of t) s) h.state)

pub row-length : (s : List ℕ) → length (decode s).rows ≡ row_count s
unfolding decode
row-length s = length-entries row_from 3 (row_numbers s) (row_count s)

pub certificate-length : (s : List ℕ) → length (decode s).certificates ≡ certificate_count s
unfolding decode
certificate-length s = length-entries certificate_from 3 (certificate_numbers s) (certificate_count s)

-- all the rows of the state, as code counts them
pub active_now : (s : List ℕ) (k u q : ℕ) → k ≡ row_count s → active (first_rows s k) u q ≡ active (decode s).rows u q
unfolding decode first_rows
active_now s k u q e = ap (λ (n : ℕ). active (first_rows s n) u q) e

-- a sound policy has few enough rules that a rule's number is one of 16 bits
pub sound-rules : (rules kinds rights s : List ℕ) → Sound (lent rules kinds rights) s → length rules / 11 ≤ 512
unfolding policy_clauses policy_of
sound-rules rules kinds rights s h =
    let e = each (policy_clauses (lent rules kinds rights)) h.policy in
    omega (arith, leb→le (length (policy_of (lent rules kinds rights)).rules) 512 e.1.1.1.0, length-entries rule_from 11 rules (length rules / 11))

-- a kind has a row exactly if its number is below the number of kinds
kind-count : (rules kinds rights : List ℕ) → length (policy_of (lent rules kinds rights)).kinds ≡ length kinds / 7
unfolding policy_of
kind-count rules kinds rights = length-entries kind_from 7 kinds (length kinds / 7)

pub no_kind_lem : (rules kinds rights : List ℕ) (k : ℕ) → length kinds / 7 ≤ k → has_row (policy_of (lent rules kinds rights)) k ≡ false
no_kind_lem rules kinds rights k l = le-ltb k (length (policy_of (lent rules kinds rights)).kinds) (omega (arith, kind-count rules kinds rights))

pub some_kind : (rules kinds rights : List ℕ) (k : ℕ) → k < length kinds / 7 → T (has_row (policy_of (lent rules kinds rights)) k)
some_kind rules kinds rights k l = lt→ltb k (length (policy_of (lent rules kinds rights)).kinds) (omega (arith, kind-count rules kinds rights))

-- ── a call that is judged first, on sound tables ──

module _ (t : Tables) (s list : List ℕ) (h : Sound t s) (c : Call) (course : Course) (is : course_of t s list c ≡ judged_first t s course) where
  own : {n : ℕ} → FirstApplies course.refusals n → FirstApplies (course_of t s list c).refusals n
  own {n} f = subst⁻¹ (λ (x : Course). FirstApplies x.refusals n) is (own_decide t s h course f)

  pub own_refuses : (reason : Reason) → FirstApplies course.refusals (code_of reason) → AnswersWith t s list c (Err reason) s list
  own_refuses reason f = refuses t s list c reason (own f)

  pub own_accepts : (n : ℕ) (s' list' : List ℕ) → FirstApplies course.refusals 0 → n ≡ course.effect.second → s' ≡ encode course.effect.state → list' ≡ course.effect.list → AnswersWith t s list c (Ok n) s' list'
  unfolding judged_first
  own_accepts n s' list' f a b l = accepts t s list c n s' list' (own f) (a ∙ ap (λ (x : Course). x.effect.second) (sym is)) (b ∙ ap (λ (x : Course). encode x.effect.state) (sym is)) (l ∙ ap (λ (x : Course). x.effect.list) (sym is))

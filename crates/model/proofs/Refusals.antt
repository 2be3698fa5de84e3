-- How a code is chosen: it is that of the first refusal that applies, a refusal changes nothing, and an accepted call has its effect.
use Prim.Native.Nat.{ℕ, zero, suc}
use mathlib.Core.Path.{◌≡◌, refl, sym, ◌∙◌, subst⁻¹}
use mathlib.Core.Bool.{Bool, true, false, not, cond}
use mathlib.Core.Logic.{◌≢◌, ◌⊎◌, inl, inr}
use mathlib.Core.List.{List, [], ◌∷◌}
use native.Mathlib.Omega.{arith}
use lib.Dec.{T, T_not}
use Rattle.model.specs.Lists.{all, is_zero}
use Rattle.model.specs.Values.{Tables}
use Rattle.model.specs.Layout.{encode}
use Rattle.model.specs.Outcome.{Outcome, Refusal, first_code, Effect, judged_first, decided, Keeps}
use Rattle.model.specs.Calls.{Call, fresh, activate, appoint, revoke, withdraw, environment, logout, invoke, effective, chain, activate_on, appoint_on, revoke_on, withdraw_on, environment_on, logout_on, invoke_on, effective_on, chain_on, fresh_on, course_of, answer}
use Rattle.model.specs.Words.{FirstApplies, none, here, later, Unchanged}
use Rattle.model.proofs.Tests.{and_left, and_right, of_true, of_false}

-- ── any list of refusals ──

pub first-applies : (rs : List Refusal) → FirstApplies rs (first_code rs)
first-applies [] = none
first-applies (r ∷ rs) = go r.applies refl (first-applies rs)
  where
    go : (b : Bool) → r.applies ≡ b → FirstApplies rs (first_code rs) → FirstApplies (r ∷ rs) (cond b r.code (first_code rs))
    go true e f = here (of_true r.applies e)
    go false e f = later (of_false r.applies e) f

-- no other code is the first that applies
pub only-first : {rs : List Refusal} {n : ℕ} → FirstApplies rs n → n ≡ first_code rs
only-first none = refl
only-first (here {r = r} {rs = rs} t) = go r.applies t
  where
    go : (b : Bool) → T b → r.code ≡ cond b r.code (first_code rs)
    go true u = refl
    go false u = absurd u
only-first (later {r = r} {rs = rs} {n = n} t f) = go r.applies t (only-first f)
  where
    go : (b : Bool) → T (not b) → n ≡ first_code rs → n ≡ cond b r.code (first_code rs)
    go true u e = absurd u
    go false u e = e

-- none of the refusals applies
abbrev pub Passed : List Refusal → Type 0
Passed [] = Unit {0}
Passed (r ∷ rs) = T (not r.applies) × Passed rs

abbrev has_code : Refusal → Bool
has_code r = not (is_zero r.code)

passed : (rs : List Refusal) → T (all has_code rs) → first_code rs ≡ 0 → Passed rs
passed [] h e = tt
passed (r ∷ rs) h e = go (λ q. passed rs (and_right (has_code r) (all has_code rs) h) q) r.applies e
  where
    go : (first_code rs ≡ 0 → Passed rs) → (b : Bool) → cond b r.code (first_code rs) ≡ 0 → T (not b) × Passed rs
    go f true q = absurd (T_not (is_zero r.code) (and_left (has_code r) (all has_code rs) h) (subst⁻¹ (λ (n : ℕ). T (is_zero n)) q tt))
    go f false q = (tt, f q)

none-applies : (rs : List Refusal) → Passed rs → first_code rs ≡ 0
none-applies [] p = refl
none-applies (r ∷ rs) p = go r.applies p.0 (none-applies rs p.1)
  where
    go : (b : Bool) → T (not b) → first_code rs ≡ 0 → cond b r.code (first_code rs) ≡ 0
    go true t e = absurd t
    go false t e = e

-- ── every call ──

decided-code : (n : ℕ) (s list : List ℕ) (e : Effect) → (decided n s list e).code ≡ n
unfolding decided
decided-code zero s list e = refl
decided-code (suc n) s list e = refl

pub answer-code : (t : Tables) (s list : List ℕ) (c : Call) → (answer t s list c).code ≡ first_code (course_of t s list c).refusals
unfolding answer
answer-code t s list c = decided-code (first_code (course_of t s list c).refusals) s list (course_of t s list c).effect

decided_unchanged : (n : ℕ) (s list : List ℕ) (e : Effect) → n ≢ 0 → Unchanged s list (decided n s list e)
unfolding decided
decided_unchanged zero s list e h = absurd (h refl)
decided_unchanged (suc n) s list e h = record { second_zero = refl; state_same = refl; list_same = refl }

-- a call is accepted, or it is refused
pub accepted_or_refused : (t : Tables) (s list : List ℕ) (c : Call) → ((answer t s list c).code ≡ 0) ⊎ ((answer t s list c).code ≢ 0)
accepted_or_refused t s list c = go (answer t s list c).code
  where
    go : (n : ℕ) → (n ≡ 0) ⊎ (n ≢ 0)
    go zero = inl refl
    go (suc n) = inr (λ e. absurd (omega arith))

pub refused_unchanged : (t : Tables) (s list : List ℕ) (c : Call) → (answer t s list c).code ≢ 0 → Unchanged s list (answer t s list c)
unfolding answer
refused_unchanged t s list c h = decided_unchanged (first_code (course_of t s list c).refusals) s list (course_of t s list c).effect (λ e. h (answer-code t s list c ∙ e))

-- what an accepted call answers and leaves
pub record Done (e : Effect) (o : Outcome) : Type 0 where
  pub code_zero : o.code ≡ 0
  pub second_told : o.second ≡ e.second
  pub state_left : o.state ≡ encode e.state
  pub list_left : o.list ≡ e.list

decided_done : (n : ℕ) (s list : List ℕ) (e : Effect) → n ≡ 0 → Done e (decided n s list e)
unfolding decided
decided_done n s list e q = subst⁻¹ (λ (k : ℕ). Done e (decided k s list e)) q (record { code_zero = refl; second_told = refl; state_left = refl; list_left = refl })

pub accepted_done : (t : Tables) (s list : List ℕ) (c : Call) → (answer t s list c).code ≡ 0 → Done (course_of t s list c).effect (answer t s list c)
unfolding answer
accepted_done t s list c h = decided_done (first_code (course_of t s list c).refusals) s list (course_of t s list c).effect (sym (answer-code t s list c) ∙ h)

-- no refusal has code 0
all_coded : (t : Tables) (s list : List ℕ) (c : Call) → T (all has_code (course_of t s list c).refusals)
unfolding course_of judged_first fresh_on activate_on appoint_on revoke_on withdraw_on environment_on logout_on invoke_on effective_on chain_on
all_coded t s list fresh = tt
all_coded t s list (activate u q) = tt
all_coded t s list (appoint a b k) = tt
all_coded t s list (revoke c a k b) = tt
all_coded t s list (withdraw a k b) = tt
all_coded t s list (environment f v) = tt
all_coded t s list (logout u) = tt
all_coded t s list (invoke u x) = tt
all_coded t s list (effective u q x) = tt
all_coded t s list (chain u q) = tt

pub accepted_passed : (t : Tables) (s list : List ℕ) (c : Call) → (answer t s list c).code ≡ 0 → Passed (course_of t s list c).refusals
accepted_passed t s list c h = passed (course_of t s list c).refusals (all_coded t s list c) (sym (answer-code t s list c) ∙ h)

pub passed_accepted : (t : Tables) (s list : List ℕ) (c : Call) → Passed (course_of t s list c).refusals → (answer t s list c).code ≡ 0
passed_accepted t s list c p = answer-code t s list c ∙ none-applies (course_of t s list c).refusals p

-- ── the promise of a call ──

-- it leaves nothing open
pub kept-once : (o : Outcome) (code₁ second₁ code₂ second₂ : ℕ) (state₁ list₁ state₂ list₂ : List ℕ) → Keeps o code₁ second₁ state₁ list₁ → Keeps o code₂ second₂ state₂ list₂
    → (code₁ ≡ code₂) × (second₁ ≡ second₂) × (state₁ ≡ state₂) × (list₁ ≡ list₂)
kept-once o c₁ n₁ c₂ n₂ s₁ l₁ s₂ l₂ a b = (a.code_kept ∙ sym b.code_kept, a.second_kept ∙ sym b.second_kept, a.state_kept ∙ sym b.state_kept, a.list_kept ∙ sym b.list_kept)

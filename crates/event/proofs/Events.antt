-- An event is one call: which it is, that it is judged first, and that it leaves a sound state.
use Prim.Native.Nat.{ℕ, ◌≤◌, ◌<◌}
use mathlib.Core.Path.{◌≡◌, refl, ◌∙◌, subst⁻¹}
use mathlib.Core.Bool.{false}
use mathlib.Core.Logic.{◌⊎◌, inl, inr}
use mathlib.Core.List.{List, []}
use native.Mathlib.Omega.{arith}
use lib.Dec.{T}
use Rattle.model.specs.Values.{Tables}
use Rattle.model.specs.Layout.{policy_of}
use Rattle.model.specs.Sound.{sound_policy, sound}
use Rattle.model.specs.Outcome.{Course, judged_first}
use Rattle.model.specs.Calls.{Call, course_of, answer}
use Rattle.model.specs.Answered.{Answer}
use Rattle.model.specs.declared.Reason.TheVariants.{MalformedPolicy}
use Rattle.std.proofs.Common.{Err}
use Rattle.model.proofs.Tests.{lt_or_ge}
use Rattle.model.proofs.Refusals.{refused_unchanged}
use Rattle.model.proofs.Accepted.{accepted-sound}
use Rattle.program.specs.Program.{line_call}
use Rattle.program.specs.Said.{number_of, line_of_read}
use Rattle.program.specs.declared.Line.{Line as Read}
use Rattle.program.specs.declared.Word.{Word}
use Rattle.program.specs.declared.Word.TheVariants.{Rule, Kind, Right, Activate, Appoint, Revoke, Withdraw, Env, Logout, Invoke, Effective}
use Rattle.inner.specs.Promise.{Answers}
use Rattle.calls.proofs.Judged.{unsound, no-policy}

-- ── every event is judged first ──

module _ (t : Tables) (s : List ℕ) (l : Read) where
  event_judged : (w : Word) → 3 ≤ number_of w → (course : Course) × (course_of t s [] (line_call (record { word = number_of w; count = l.count; numbers = l.numbers })) ≡ judged_first t s course)
  unfolding line_call course_of
  event_judged Rule h = absurd (omega arith)
  event_judged Kind h = absurd (omega arith)
  event_judged Right h = absurd (omega arith)
  event_judged Activate h = (_, refl)
  event_judged Appoint h = (_, refl)
  event_judged Revoke h = (_, refl)
  event_judged Withdraw h = (_, refl)
  event_judged Env h = (_, refl)
  event_judged Logout h = (_, refl)
  event_judged Invoke h = (_, refl)
  event_judged Effective h = (_, refl)

  pub malformed_answers : 3 ≤ number_of l.word → sound_policy t ≡ false → Answers t s (line_call (line_of_read l)) (Err MalformedPolicy) s
  malformed_answers h e = let j = event_judged l.word h in unsound t s [] (line_call (line_of_read l)) j.0 j.1 MalformedPolicy (no-policy t s e)

-- ── soundness is kept ──

pub keeps-sound : (t : Tables) (s s' : List ℕ) (c : Call) (r : Answer) → T (sound (policy_of t) s) → Answers t s c r s' → T (sound (policy_of t) s')
keeps-sound t s s' c r h a = go (lt_or_ge 0 (answer t s [] c).code)
  where
    go : (0 < (answer t s [] c).code) ⊎ ((answer t s [] c).code ≤ 0) → T (sound (policy_of t) s')
    go (inl n) = subst⁻¹ (λ (l : List ℕ). T (sound (policy_of t) l)) (a.state_kept ∙ (refused_unchanged t s [] c (λ z. omega arith)).state_same) h
    go (inr n) = subst⁻¹ (λ (l : List ℕ). T (sound (policy_of t) l)) a.state_kept (accepted-sound t s [] c (omega arith))

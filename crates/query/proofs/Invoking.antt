-- Invoke: each answer that the code gives is the model's.
use Prim.Native.Nat.{ℕ, ◌<◌, ◌≤◌}
use mathlib.Core.Path.{◌≡◌, refl, sym, ap, subst⁻¹}
use mathlib.Core.Bool.{Bool, true, false, cond}
use mathlib.Core.List.{List, [], ◌∷◌}
use lib.Dec.{lt→ltb}
use lib.ListN.{get_or}
use borrow.Author.Tests.{le-ltb}
use Rattle.model.specs.Layout.{policy_of, decode}
use Rattle.model.specs.Effective.{direct}
use Rattle.model.specs.Outcome.{judged_first, given}
use Rattle.model.specs.Calls.{invoke, is_user, is_privilege, allowed, invoke_on, course_of}
use Rattle.model.specs.Words.{Sound, none, here, later}
use Rattle.std.proofs.Common.{Ok, Err}
use Rattle.model.specs.Answered.{Answer}
use Rattle.model.specs.declared.Reason.TheVariants.{OutOfRange}
use Rattle.model.proofs.Numbers.{encode-decode, sound_formed}
use Rattle.inner.specs.Promise.{lent, Answers}
use Rattle.inner.proofs.Codes.{own_refuses, own_accepts, out_of_range_lem, in_range}

module _ (rules kinds rights s : List ℕ) (h : Sound (lent rules kinds rights) s) (u x : ℕ) where
  invoke_is : course_of (lent rules kinds rights) s [] (invoke u x) ≡ judged_first (lent rules kinds rights) s (invoke_on (given (lent rules kinds rights) s []) u x)
  unfolding course_of
  invoke_is = refl

  out : (i : ℕ) → get_or (is_user u ∷ is_privilege x ∷ []) i true ≡ false → Answers (lent rules kinds rights) s (invoke u x) (Err OutOfRange) s
  unfolding invoke_on
  out i e = own_refuses (lent rules kinds rights) s [] h (invoke u x) _ invoke_is OutOfRange (here (out_of_range_lem (is_user u ∷ is_privilege x ∷ []) i e))

  pub invoke-no-user : 4096 ≤ u → Answers (lent rules kinds rights) s (invoke u x) (Err OutOfRange) s
  invoke-no-user l = out 0 (le-ltb u 4096 l)

  pub invoke-no-privilege : 1024 ≤ x → Answers (lent rules kinds rights) s (invoke u x) (Err OutOfRange) s
  invoke-no-privilege l = out 1 (le-ltb x 1024 l)

  -- the answer is 1 or 0 as an active role carries the privilege, and the state is what it was
  pub invoke-told : (r : Answer) (b : Bool) → u < 4096 → x < 1024 → r ≡ Ok (cond b 1 0) → b ≡ allowed (policy_of (lent [] [] rights)) (decode s).rows u x → Answers (lent rules kinds rights) s (invoke u x) r s
  unfolding invoke_on allowed direct policy_of
  invoke-told r b in₁ in₂ e f =
      subst⁻¹ (λ (r : Answer). Answers (lent rules kinds rights) s (invoke u x) r s) e
      (own_accepts (lent rules kinds rights) s [] h (invoke u x) _ invoke_is (cond b 1 0) s [] (later (in_range (is_user u ∷ is_privilege x ∷ []) (lt→ltb u 4096 in₁, (lt→ltb x 1024 in₂, tt))) none)
      (ap (λ (v : Bool). cond v 1 0) f) (sym (encode-decode s (sound_formed (policy_of (lent rules kinds rights)) s h.state))) refl)

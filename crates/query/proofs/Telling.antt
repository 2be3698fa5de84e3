-- Effective: each answer that the code gives is the model's.
use Prim.Native.Nat.{ℕ, ◌<◌, ◌≤◌}
use mathlib.Core.Path.{◌≡◌, refl, sym, ap, ◌∙◌, subst⁻¹}
use mathlib.Core.Bool.{Bool, true, false, ◌||◌, cond}
use mathlib.Core.List.{List, [], ◌∷◌, reverse}
use lib.Dec.{lt→ltb}
use lib.ListN.{get_or}
use borrow.Author.Tests.{le-ltb}
use Rattle.model.specs.Lists.{any}
use Rattle.model.specs.Layout.{policy_of, decode, row_count}
use Rattle.model.specs.Conditions.{is_row, active}
use Rattle.model.specs.Effective.{direct, carries, effectively}
use Rattle.model.specs.Outcome.{judged_first, given}
use Rattle.model.specs.Calls.{effective, is_user, is_role, is_privilege, effective_on, course_of}
use Rattle.model.specs.Words.{Sound, none, here, later}
use Rattle.std.proofs.Common.{Ok, Err}
use Rattle.model.specs.Answered.{Answer}
use Rattle.model.specs.declared.Reason.TheVariants.{OutOfRange, NotActive}
use Rattle.model.specs.declared.Row.{Row}
use Rattle.model.proofs.Tests.{of_false}
use Rattle.model.proofs.Numbers.{encode-decode, sound_formed}
use Rattle.table.specs.Entries.{first_rows, without_rights}
use Rattle.inner.specs.Promise.{lent, Answers}
use Rattle.inner.proofs.Codes.{own_refuses, own_accepts, out_of_range_lem, in_range, found, active_now}
use Rattle.rests.proofs.Stepping.{rests_same}
use Rattle.direct.specs.Having.{holds_right, Having}
use Rattle.query.specs.Reached.{carried, reached_in}

-- a role carries the privilege, by the roles that have it themselves or by the rights
carried_same : (rules kinds rights : List ℕ) (having : List Bool) (u x : ℕ) → Having rights x having → (rows : List Row) (q : ℕ) → carried (without_rights rules kinds) having u rows q ≡ carries (policy_of (lent rules kinds rights)) u x rows q
unfolding Having direct policy_of
carried_same rules kinds rights having u x h [] q = refl
carried_same rules kinds rights having u x h (r ∷ earlier) q =
    λ i.
    cond (is_row u q r)
    (itself i || any (λ (lower : ℕ). carried_same rules kinds rights having u x h earlier lower i) (rests_same (lent rules kinds rights) r i))
    (carried_same rules kinds rights having u x h earlier q i)
  where
    itself : holds_right having q ≡ direct (policy_of (lent rules kinds rights)) q x
    itself = h q

module _ (rules kinds rights s : List ℕ) (h : Sound (lent rules kinds rights) s) (u q x : ℕ) where
  effective_is : course_of (lent rules kinds rights) s [] (effective u q x) ≡ judged_first (lent rules kinds rights) s (effective_on (given (lent rules kinds rights) s []) u q x)
  unfolding course_of
  effective_is = refl

  out : (i : ℕ) → get_or (is_user u ∷ is_role q ∷ is_privilege x ∷ []) i true ≡ false → Answers (lent rules kinds rights) s (effective u q x) (Err OutOfRange) s
  unfolding effective_on
  out i e = own_refuses (lent rules kinds rights) s [] h (effective u q x) _ effective_is OutOfRange (here (out_of_range_lem (is_user u ∷ is_role q ∷ is_privilege x ∷ []) i e))

  pub effective-no-user : 4096 ≤ u → Answers (lent rules kinds rights) s (effective u q x) (Err OutOfRange) s
  effective-no-user l = out 0 (le-ltb u 4096 l)

  pub effective-no-role : 256 ≤ q → Answers (lent rules kinds rights) s (effective u q x) (Err OutOfRange) s
  effective-no-role l = out 1 (le-ltb q 256 l)

  pub effective-no-privilege : 1024 ≤ x → Answers (lent rules kinds rights) s (effective u q x) (Err OutOfRange) s
  effective-no-privilege l = out 2 (le-ltb x 1024 l)

  module _ (in₁ : u < 4096) (in₂ : q < 256) (in₃ : x < 1024) (k : ℕ) (all : k ≡ row_count s) where
    pub effective_inactive : active (first_rows s k) u q ≡ false → Answers (lent rules kinds rights) s (effective u q x) (Err NotActive) s
    unfolding effective_on
    effective_inactive e =
        own_refuses (lent rules kinds rights) s [] h (effective u q x) _ effective_is NotActive
        (later (in_range (is_user u ∷ is_role q ∷ is_privilege x ∷ []) (lt→ltb u 4096 in₁, (lt→ltb q 256 in₂, (lt→ltb x 1024 in₃, tt)))) (here (of_false (active (decode s).rows u q) (sym (active_now s k u q all) ∙ e))))

    -- the answer is 1 or 0 as the role carries the privilege, and the state is what it was
    pub effective-told : (r : Answer) (b : Bool) (having : List Bool) → Having rights x having → active (first_rows s k) u q ≡ true → r ≡ Ok (cond b 1 0) → b ≡ reached_in (without_rights rules kinds) having s u k q → Answers (lent rules kinds rights) s (effective u q x) r s
    unfolding effective_on effectively decode reached_in first_rows
    effective-told r b having g n z f =
        subst⁻¹ (λ (r : Answer). Answers (lent rules kinds rights) s (effective u q x) r s) z
        (own_accepts (lent rules kinds rights) s [] h (effective u q x) _ effective_is (cond b 1 0) s []
        (later (in_range (is_user u ∷ is_role q ∷ is_privilege x ∷ []) (lt→ltb u 4096 in₁, (lt→ltb q 256 in₂, (lt→ltb x 1024 in₃, tt)))) (later (found (active (decode s).rows u q) (sym (active_now s k u q all) ∙ n)) none))
        (ap (λ (v : Bool). cond v 1 0) (f ∙ ap (λ (m : ℕ). reached_in (without_rights rules kinds) having s u m q) all ∙ carried_same rules kinds rights having u x g (reverse (first_rows s (row_count s))) q))
        (sym (encode-decode s (sound_formed (policy_of (lent rules kinds rights)) s h.state))) refl)

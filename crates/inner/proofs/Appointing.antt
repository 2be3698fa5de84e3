-- Appoint: each answer that the code gives is the model's.
use Prim.Native.Nat.{ℕ, ◌≤◌, ◌<◌, ◌/◌}
use mathlib.Core.Path.{◌≡◌, refl}
use mathlib.Core.Bool.{true, false, not}
use mathlib.Core.List.{List, [], ◌∷◌, ◌++◌}
use native.Mathlib.Omega.{arith}
use lib.Dec.{T, lt→ltb, le→leb}
use lib.ListN.{length}
use borrow.Author.Tests.{le-ltb, lt-leb}
use Rattle.model.specs.Lists.{every}
use Rattle.model.specs.Values.{with_certificates}
use Rattle.model.specs.Layout.{policy_of, decode, encode, certificate_count}
use Rattle.model.specs.Conditions.{kind_numbered, active}
use Rattle.model.specs.Sound.{same_certificate}
use Rattle.model.specs.Calls.{appoint, is_user, has_row, stands, appoint_on, course_of}
use Rattle.model.specs.Outcome.{given}
use Rattle.model.specs.Words.{Sound, FirstApplies, none, here, later}
use Rattle.model.specs.Answered.{code_of}
use Rattle.model.specs.declared.Reason.{Reason}
use Rattle.model.specs.declared.Reason.TheVariants.{OutOfRange, NotInAppointerRole, StandsAlready, TableFull}
use Rattle.std.proofs.Common.{Ok, Err, Option, position, is_some, get_or}
use Rattle.model.proofs.Tests.{of_true, of_false, found-any, not_found}
use Rattle.model.proofs.Chains.{place_below, no_place_below}
use Rattle.table.specs.Entries.{without_rights}
use Rattle.inner.specs.Promise.{lent, Answers}
use Rattle.inner.proofs.Codes.{own_refuses, own_accepts, out_of_range_lem, in_range, found, certificate-length, no_kind_lem, some_kind}

module _ (rules kinds rights s : List ℕ) (h : Sound (lent rules kinds rights) s) (b a k : ℕ) where
  refused : (reason : Reason) → FirstApplies (appoint_on (given (lent rules kinds rights) s []) (record { appointee = a; kind = k; appointer = b })).refusals (code_of reason) → Answers (lent rules kinds rights) s (appoint b a k) (Err reason) s
  unfolding course_of
  refused = own_refuses (lent rules kinds rights) s [] h (appoint b a k) _ refl

  out : (i : ℕ) → get_or (is_user b ∷ is_user a ∷ has_row (policy_of (lent rules kinds rights)) k ∷ []) i true ≡ false → Answers (lent rules kinds rights) s (appoint b a k) (Err OutOfRange) s
  unfolding appoint_on
  out i e = refused OutOfRange (here (out_of_range_lem (is_user b ∷ is_user a ∷ has_row (policy_of (lent rules kinds rights)) k ∷ []) i e))

  pub appoint-no-appointer : 4096 ≤ b → Answers (lent rules kinds rights) s (appoint b a k) (Err OutOfRange) s
  appoint-no-appointer l = out 0 (le-ltb b 4096 l)

  pub appoint-no-appointee : 4096 ≤ a → Answers (lent rules kinds rights) s (appoint b a k) (Err OutOfRange) s
  appoint-no-appointee l = out 1 (le-ltb a 4096 l)

  pub appoint-no-kind : length kinds / 7 ≤ k → Answers (lent rules kinds rights) s (appoint b a k) (Err OutOfRange) s
  appoint-no-kind l = out 2 (no_kind_lem rules kinds rights k l)

  module _ (in₁ : b < 4096) (in₂ : a < 4096) (in₃ : k < length kinds / 7) where
    range : T (not (not (every (is_user b ∷ is_user a ∷ has_row (policy_of (lent rules kinds rights)) k ∷ []))))
    range = in_range (is_user b ∷ is_user a ∷ has_row (policy_of (lent rules kinds rights)) k ∷ []) (lt→ltb b 4096 in₁, (lt→ltb a 4096 in₂, (some_kind rules kinds rights k in₃, tt)))

    pub appoint_not_in_role : active (decode s).rows b (kind_numbered (policy_of (without_rights [] kinds)) k).appointer ≡ false → Answers (lent rules kinds rights) s (appoint b a k) (Err NotInAppointerRole) s
    unfolding appoint_on policy_of
    appoint_not_in_role e = refused NotInAppointerRole (later range (here (of_false _ e)))

    module _ (in_role : active (decode s).rows b (kind_numbered (policy_of (without_rights [] kinds)) k).appointer ≡ true) where
      module _ {place : Option ℕ} (at : place ≡ position (same_certificate (record { appointee = a; kind = k; appointer = b })) (decode s).certificates) where
        pub appoint-stands : is_some place ≡ true → Answers (lent rules kinds rights) s (appoint b a k) (Err StandsAlready) s
        unfolding appoint_on policy_of
        appoint-stands e = refused StandsAlready (later range (later (found _ in_role) (here (of_true _ (found-any (same_certificate (record { appointee = a; kind = k; appointer = b })) (decode s).certificates (place_below _ _ place at e))))))

        new : is_some place ≡ false → stands (decode s) (record { appointee = a; kind = k; appointer = b }) ≡ false
        new e = not_found (same_certificate (record { appointee = a; kind = k; appointer = b })) (decode s).certificates (no_place_below _ _ place at e)

        pub appoint_full : is_some place ≡ false → 256 ≤ certificate_count s → Answers (lent rules kinds rights) s (appoint b a k) (Err TableFull) s
        unfolding appoint_on policy_of
        appoint_full e m = refused TableFull (later range (later (found _ in_role) (later (of_false _ (new e)) (here (le→leb 256 (length (decode s).certificates) (omega (arith, certificate-length s)))))))

        pub appoint_done : is_some place ≡ false → (s' : List ℕ) → certificate_count s < 256 → s' ≡ encode (with_certificates (decode s) ((decode s).certificates ++ (record { appointee = a; kind = k; appointer = b } ∷ []))) → Answers (lent rules kinds rights) s (appoint b a k) (Ok 0) s'
        unfolding course_of appoint_on policy_of
        appoint_done e s' m f =
            own_accepts (lent rules kinds rights) s [] h (appoint b a k) _ refl 0 s' []
            (later range (later (found _ in_role) (later (of_false _ (new e)) (later (of_false _ (lt-leb 256 (length (decode s).certificates) (omega (arith, certificate-length s)))) none)))) refl f refl

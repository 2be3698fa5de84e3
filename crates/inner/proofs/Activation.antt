-- Activate: each answer that the code gives is the model's.
use Prim.Native.Nat.{ℕ, ◌≤◌, ◌<◌, ◌/◌}
use mathlib.Core.Path.{◌≡◌, refl, sym, ap, ◌∙◌}
use mathlib.Core.Bool.{Bool, true, false, not}
use mathlib.Core.List.{List, [], ◌∷◌, ◌++◌}
use native.Mathlib.Omega.{arith}
use lib.Dec.{T, leb, lt→ltb, le→leb}
use lib.ListN.{length}
use borrow.Author.Tests.{le-ltb, lt-leb}
use Rattle.std.proofs.Common.{position, Option, Some, None}
use Rattle.model.specs.Lists.{every}
use Rattle.model.specs.Values.{with_rows, world_of}
use Rattle.model.specs.Layout.{policy_of, decode, encode, row_count, rule_from}
use Rattle.model.specs.Conditions.{active, satisfied}
use Rattle.model.specs.Outcome.{given}
use Rattle.model.specs.Calls.{activate, is_user, is_role, some_rule_satisfied, lowest_rule, activate_on, course_of}
use Rattle.model.specs.Words.{Sound, FirstApplies, none, here, later}
use Rattle.model.specs.Answered.{code_of}
use Rattle.model.specs.declared.Reason.{Reason}
use Rattle.model.specs.declared.Reason.TheVariants.{OutOfRange, AlreadyActive, NoRuleSatisfied, TableFull}
use Rattle.std.proofs.Common.{Ok, Err}
use Rattle.model.specs.declared.Rule.{Rule}
use Rattle.model.specs.declared.Row.{Row}
use Rattle.model.proofs.Tests.{of_true, of_false, found-any, not_found}
use Rattle.model.proofs.Chains.{placed, unplaced}
use Rattle.table.specs.Entries.{world_at, without_rights}
use Rattle.table.proofs.Entries.{length-entries}
use Rattle.table.proofs.Worlds.{satisfied-same}
use Rattle.marks.specs.Marked.{has, role_marked, satisfied_by}
use Rattle.marks.specs.Owned.{Own}
use Rattle.marks.proofs.Owning.{active-own, satisfied-own}
use Rattle.inner.specs.Promise.{lent, Answers}
use Rattle.inner.proofs.Codes.{own_refuses, own_accepts, out_of_range_lem, in_range, found, row-length, sound-rules}

-- whether the user is active in the role, as the user's own marks tell
pub told_by_marks : {u q : ℕ} {own : List Bool} {rows : List Row} {marked b : Bool} → Own u own rows [] → q < 256 → marked ≡ role_marked (has own) q → marked ≡ b → active rows u q ≡ b
told_by_marks {u} {q} {own} {rows} x l e f = sym (active-own u own rows [] x q l) ∙ sym e ∙ f

-- the lowest rule by the user's own marks is the lowest that is satisfied
pub lowest_own : (rules kinds s : List ℕ) (u q : ℕ) {place told : Option ℕ} {own : List Bool} → Own u own (decode s).rows (decode s).certificates
    → told ≡ place → told ≡ position (satisfied_by (has own) (world_at rules kinds s) q) (policy_of (without_rights rules kinds)).rules
    → place ≡ position (satisfied (world_at rules kinds s) (decode s).rows u q) (policy_of (without_rights rules kinds)).rules
lowest_own rules kinds s u q {place} {told} {own} x e h =
    sym e
    ∙ h
    ∙ (λ j. position (λ (r : Rule). satisfied-own u own (decode s).rows (world_at rules kinds s) x q r j) (policy_of (without_rights rules kinds)).rules)

module _ (rules kinds rights s : List ℕ) (h : Sound (lent rules kinds rights) s) (u q : ℕ) where
  refused : (reason : Reason) → FirstApplies (activate_on (given (lent rules kinds rights) s []) u q).refusals (code_of reason) → Answers (lent rules kinds rights) s (activate u q) (Err reason) s
  unfolding course_of
  refused = own_refuses (lent rules kinds rights) s [] h (activate u q) _ refl

  pub activate-no-user : 4096 ≤ u → Answers (lent rules kinds rights) s (activate u q) (Err OutOfRange) s
  unfolding activate_on
  activate-no-user l = refused OutOfRange (here (out_of_range_lem (is_user u ∷ is_role q ∷ []) 0 (le-ltb u 4096 l)))

  pub activate-no-role : 256 ≤ q → Answers (lent rules kinds rights) s (activate u q) (Err OutOfRange) s
  unfolding activate_on
  activate-no-role l = refused OutOfRange (here (out_of_range_lem (is_user u ∷ is_role q ∷ []) 1 (le-ltb q 256 l)))

  module _ (a : u < 4096) (b : q < 256) where
    range : T (not (not (every (is_user u ∷ is_role q ∷ []))))
    range = in_range (is_user u ∷ is_role q ∷ []) (lt→ltb u 4096 a, (lt→ltb q 256 b, tt))

    pub activate-active : active (decode s).rows u q ≡ true → Answers (lent rules kinds rights) s (activate u q) (Err AlreadyActive) s
    unfolding activate_on
    activate-active e = refused AlreadyActive (later range (here (of_true (active (decode s).rows u q) e)))

    module _ (new : active (decode s).rows u q ≡ false) where
      rule-count : length (policy_of (lent rules kinds rights)).rules ≡ length rules / 11
      unfolding policy_of
      rule-count = length-entries rule_from 11 rules (length rules / 11)

      -- the place that the code looks for is that of the lowest rule that is satisfied
      place_same : (place : Option ℕ) → place ≡ position (satisfied (world_at rules kinds s) (decode s).rows u q) (policy_of (without_rights rules kinds)).rules → place ≡ position (satisfied (world_of (policy_of (lent rules kinds rights)) (decode s)) (decode s).rows u q) (policy_of (lent rules kinds rights)).rules
      unfolding policy_of
      place_same place e = e ∙ (λ j. position (satisfied-same (policy_of (without_rights rules kinds)) (policy_of (lent rules kinds rights)) (decode s) refl j (decode s).rows u q) (policy_of (lent rules kinds rights)).rules)

      pub activate-no-rule : None ≡ position (satisfied (world_at rules kinds s) (decode s).rows u q) (policy_of (without_rights rules kinds)).rules → Answers (lent rules kinds rights) s (activate u q) (Err NoRuleSatisfied) s
      unfolding activate_on
      activate-no-rule e =
          refused NoRuleSatisfied
          (later range (later (of_false (active (decode s).rows u q) new) (here (of_false (some_rule_satisfied (policy_of (lent rules kinds rights)) (decode s) u q)
          (not_found (satisfied (world_of (policy_of (lent rules kinds rights)) (decode s)) (decode s).rows u q) (policy_of (lent rules kinds rights)).rules (unplaced _ _ (sym (place_same None e))))))))

      module _ (i : ℕ) (at : Some i ≡ position (satisfied (world_at rules kinds s) (decode s).rows u q) (policy_of (without_rights rules kinds)).rules) where
        lowest : (i ≡ lowest_rule (policy_of (lent rules kinds rights)) (decode s) u q) × (i < length (policy_of (lent rules kinds rights)).rules)
        lowest = placed _ _ i (sym (place_same (Some i) at))

        satisfied_now : some_rule_satisfied (policy_of (lent rules kinds rights)) (decode s) u q ≡ true
        satisfied_now = found-any (satisfied (world_of (policy_of (lent rules kinds rights)) (decode s)) (decode s).rows u q) (policy_of (lent rules kinds rights)).rules (omega (arith, lowest.0, lowest.1))

        -- a sound policy has few enough rules that a rule's number is one of 16 bits
        pub rule_fits_16 : i < 512
        rule_fits_16 = omega (arith, lowest.1, rule-count, sound-rules rules kinds rights s h)

        pub activate_full : 256 ≤ row_count s → Answers (lent rules kinds rights) s (activate u q) (Err TableFull) s
        unfolding activate_on
        activate_full l = refused TableFull (later range (later (of_false (active (decode s).rows u q) new) (later (found _ satisfied_now) (here (le→leb 256 (length (decode s).rows) (omega (arith, row-length s)))))))

        pub activate_done : (s' : List ℕ) → row_count s < 256 → s' ≡ encode (with_rows (decode s) ((decode s).rows ++ (record { user = u; role = q; rule = i } ∷ []))) → Answers (lent rules kinds rights) s (activate u q) (Ok i) s'
        unfolding course_of activate_on
        activate_done s' l f =
            own_accepts (lent rules kinds rights) s [] h (activate u q) _ refl i s' []
            (later range (later (of_false (active (decode s).rows u q) new) (later (found _ satisfied_now) (later (of_false (leb 256 (length (decode s).rows)) (lt-leb 256 (length (decode s).rows) (omega (arith, row-length s)))) none))))
            lowest.0 (f ∙ ap (λ (n : ℕ). encode (with_rows (decode s) ((decode s).rows ++ (record { user = u; role = q; rule = n } ∷ [])))) lowest.0) refl

-- A row is sound if it is named rightly, whatever stands before it, and stays over the rows before it. What is said of the rows in one
-- pass answers the second part for all of them at once.
use Prim.Native.Nat.{ℕ, zero, suc, ◌≤◌}
use mathlib.Core.Path.{◌≡◌, refl, sym, ap, ◌∙◌}
use mathlib.Core.Bool.{Bool, true, false, not, cond, ◌&&◌, and-true, and-false}
use mathlib.Core.List.{List, [], ◌∷◌, ◌++◌}
use native.Mathlib.Omega.{arith}
use lib.Dec.{eqb, ltb}
use lib.ListN.{length, take}
use lib.Seq.{take-suc}
use Rattle.model.specs.Lists.{all, all_over_earlier}
use Rattle.model.specs.Limits.{users, roles}
use Rattle.model.specs.Values.{World}
use Rattle.model.specs.Layout.{decode, policy_of, row_count}
use Rattle.model.specs.Conditions.{rule_numbered, active, supported}
use Rattle.model.specs.Sound.{row_clauses, row_sound}
use Rattle.model.specs.declared.Row.{Row}
use Rattle.model.proofs.Tests.{of_true, and_right, all_append, earlier_append, earlier_map}
use Rattle.model.proofs.Sweep.{left_whole}
use Rattle.table.specs.Entries.{row_at, first_rows, world_at, Sized, rules_only}
use Rattle.table.proofs.Entries.{rows_more}
use Rattle.std.specs.Prelude.{Option, Some, None}
use Rattle.support.specs.Verdicts.{kept, verdict, said_of, Judged}
use Rattle.support.specs.declared.Verdict.{Verdict}
use Rattle.support.specs.declared.Verdict.TheVariants.{Stays, Falls, Twice}
use Rattle.sound.specs.Fitting.{fit_clauses, row_fits, said_to_stay}

-- ── two parts of a test ──

-- its user is not in its role yet, and the rows before it support it
abbrev pub stays : World → List Row → Row → Bool
stays w earlier r = not (active earlier r.user r.role) && supported w earlier r

sorted : (a b c d e f : Bool) → (a && (b && (c && (d && (e && (f && true)))))) ≡ ((a && (b && (d && (e && true)))) && (c && f))
sorted false b c d e f = refl
sorted true false c d e f = refl
sorted true true true false e f = refl
sorted true true true true false f = refl
sorted true true true true true f = and-true f
sorted true true false d e f = sym (and-false (d && (e && true)))

row_parts : (w : World) (earlier : List Row) (r : Row) → row_sound w earlier r ≡ (row_fits w.policy r && stays w earlier r)
unfolding row_clauses fit_clauses
row_parts w earlier r =
    sorted (ltb r.user users) (ltb r.role roles) (not (active earlier r.user r.role)) (ltb r.rule (length w.policy.rules))
    (eqb (rule_numbered w.policy r.rule).target r.role)
    (supported w earlier r)

swapped : (a b c d : Bool) → ((a && b) && (c && d)) ≡ ((a && c) && (b && d))
swapped false b c d = refl
swapped true true c d = refl
swapped true false c d = sym (and-false c)

module _ {A : Type 0} (test : List A → A → Bool) (alone : A → Bool) (over : List A → A → Bool) (parts : (earlier : List A) (x : A) → test earlier x ≡ (alone x && over earlier x)) where
  -- the part that looks at the element alone may be asked of all elements first
  earlier_parts : (earlier xs : List A) → all_over_earlier test earlier xs ≡ (all alone xs && all_over_earlier over earlier xs)
  earlier_parts earlier [] = refl
  earlier_parts earlier (x ∷ xs) =
      (λ i. parts earlier x i && earlier_parts (earlier ++ (x ∷ [])) xs i)
      ∙ swapped (alone x) (over earlier x) (all alone xs) (all_over_earlier over (earlier ++ (x ∷ [])) xs)

pub rows_parts : (w : World) (rows : List Row) → all_over_earlier (row_sound w) [] rows ≡ (all (row_fits w.policy) rows && all_over_earlier (stays w) [] rows)
rows_parts w rows = earlier_parts (row_sound w) (row_fits w.policy) (stays w) (row_parts w) [] rows

-- ── what was said ──

said_one : (active supported : Bool) → said_to_stay (Some (cond supported (cond active Twice Stays) Falls)) ≡ (not active && supported)
said_one true true = refl
said_one true false = refl
said_one false true = refl
said_one false false = refl

module _ (w : World) (s : List ℕ) (verdicts : List (Option Verdict)) (judged : Judged w s verdicts) where
  -- where all rows before stay, they are what is left of themselves
  row_stays : (k : ℕ) → suc k ≤ row_count s → all_over_earlier (stays w) [] (first_rows s k) ≡ true → said_to_stay (said_of verdicts k) ≡ stays w (first_rows s k) (row_at s k)
  row_stays k h e =
      let t = earlier_map (stays w) (supported w) (λ earlier r u. and_right (not (active earlier r.user r.role)) (supported w earlier r) u) [] (first_rows s k) (of_true (all_over_earlier (stays w) [] (first_rows s k)) e) in
      let whole : kept w s k ≡ first_rows s k = left_whole (supported w) (first_rows s k) t in
      ap said_to_stay (judged.said k (omega arith))
      ∙ ap (λ (rows : List Row). said_to_stay (Some (verdict w rows (row_at s k)))) whole
      ∙ said_one (active (first_rows s k) (row_at s k).user (row_at s k).role) (supported w (first_rows s k) (row_at s k))

  first_stay : (k : ℕ) → k ≤ row_count s → row_count s ≤ 256 → all said_to_stay (take k verdicts) ≡ all_over_earlier (stays w) [] (first_rows s k)
  unfolding first_rows
  first_stay zero h few = refl
  first_stay (suc k) h few =
      ap (all said_to_stay) (take-suc verdicts k None (omega (arith, judged.size)))
      ∙ all_append said_to_stay (take k verdicts) (said_of verdicts k ∷ [])
      ∙ ap (λ (b : Bool). b && (said_to_stay (said_of verdicts k) && true)) (first_stay k (omega arith) few)
      ∙ go (all_over_earlier (stays w) [] (first_rows s k)) (row_stays k h)
      ∙ sym (ap (all_over_earlier (stays w) []) (rows_more s k) ∙ earlier_append (stays w) [] (first_rows s k) (row_at s k ∷ []))
    where
      go : (b : Bool) → (b ≡ true → said_to_stay (said_of verdicts k) ≡ stays w (first_rows s k) (row_at s k)) → (b && (said_to_stay (said_of verdicts k) && true)) ≡ (b && (stays w (first_rows s k) (row_at s k) && true))
      go true f = ap (λ (b : Bool). b && true) (f refl)
      go false f = refl

module _ (rules kinds s : List ℕ) where
  named_same : (rows : List Row) → all (row_fits (rules_only rules)) rows ≡ all (row_fits (world_at rules kinds s).policy) rows
  unfolding fit_clauses policy_of
  named_same rows = refl

  state_parts : all_over_earlier (row_sound (world_at rules kinds s)) [] (decode s).rows ≡ (all (row_fits (rules_only rules)) (decode s).rows && all_over_earlier (stays (world_at rules kinds s)) [] (decode s).rows)
  state_parts = rows_parts (world_at rules kinds s) (decode s).rows ∙ ap (λ (b : Bool). b && all_over_earlier (stays (world_at rules kinds s)) [] (decode s).rows) (sym (named_same (decode s).rows))

  -- rows of which one is not named rightly are not sound
  pub rows_unnamed : all (row_fits (rules_only rules)) (decode s).rows ≡ false → all_over_earlier (row_sound (world_at rules kinds s)) [] (decode s).rows ≡ false
  rows_unnamed e = state_parts ∙ ap (λ (b : Bool). b && all_over_earlier (stays (world_at rules kinds s)) [] (decode s).rows) e

  -- and rows that are are sound if of each it is said that it stays
  pub rows_judged : (verdicts : List (Option Verdict)) (n : ℕ) → n ≡ row_count s → Sized s → all (row_fits (rules_only rules)) (decode s).rows ≡ true → Judged (world_at rules kinds s) s verdicts → all said_to_stay (take n verdicts) ≡ all_over_earlier (row_sound (world_at rules kinds s)) [] (decode s).rows
  unfolding decode first_rows
  rows_judged verdicts n count z e judged =
      ap (λ (k : ℕ). all said_to_stay (take k verdicts)) count
      ∙ first_stay (world_at rules kinds s) s verdicts judged (row_count s) (omega arith) z.rows
      ∙ sym (state_parts ∙ ap (λ (b : Bool). b && all_over_earlier (stays (world_at rules kinds s)) [] (decode s).rows) e)

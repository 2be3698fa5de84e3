-- On sound tables a role has one row.
use Prim.Native.Nat.{ℕ, zero, suc, ◌≤◌, ◌<◌}
use mathlib.Core.Path.{◌≡◌, refl, sym, ap, ◌∙◌, subst, subst⁻¹}
use mathlib.Core.Bool.{Bool, true, false, ◌&&◌, cond}
use mathlib.Core.Logic.{◌⊎◌, inl, inr, ◌≢◌}
use mathlib.Core.List.{List, [], ◌∷◌}
use native.Mathlib.Omega.{arith}
use lib.Dec.{T, ltb→lt, T_not}
use Rattle.model.specs.Lists.{all_over_earlier}
use Rattle.model.specs.Values.{Tables, World, world_of}
use Rattle.model.specs.Layout.{policy_of, decode, row_count}
use Rattle.model.specs.Conditions.{is_row, active}
use Rattle.model.specs.Sound.{row_sound}
use Rattle.model.specs.Words.{Sound}
use Rattle.model.proofs.Tests.{lt_or_ge, of_true, and_left, and_right, earlier_append}
use Rattle.model.proofs.Numbers.{sound-decode}
use Rattle.model.proofs.Kept.{sound-rows}
use Rattle.model.proofs.Support.{is_row-user, is_row-role, row_new, row-role}
use Rattle.table.specs.Entries.{row_at, first_rows}
use Rattle.table.proofs.Entries.{rows_more}
use Rattle.rests.specs.Newest.{newest}
use Rattle.query.specs.Reached.{RolesFit}
use Rattle.rests.proofs.Newest.{newest_some}

module _ (t : Tables) (s : List ℕ) (h : Sound t s) where
  abbrev world : World
  world = world_of (policy_of t) (decode s)

  -- ── each row is sound over those before it ──

  rows-sound-all : T (all_over_earlier (row_sound world) [] (first_rows s (row_count s)))
  unfolding decode first_rows
  rows-sound-all = sound-rows (policy_of t) (decode s) (sound-decode (policy_of t) s h.state)

  sound_upto : (n : ℕ) → T (all_over_earlier (row_sound world) [] (first_rows s n)) → (k : ℕ) → k < n → T (row_sound world (first_rows s k) (row_at s k))
  sound_upto zero v k l = absurd (omega arith)
  sound_upto (suc n) v k l = go (λ a m. sound_upto n a k m) (lt_or_ge k n)
    where
      split : T (all_over_earlier (row_sound world) [] (first_rows s n) && (row_sound world (first_rows s n) (row_at s n) && true))
      split = subst T (ap (all_over_earlier (row_sound world) []) (rows_more s n) ∙ earlier_append (row_sound world) [] (first_rows s n) (row_at s n ∷ [])) v

      go : (T (all_over_earlier (row_sound world) [] (first_rows s n)) → k < n → T (row_sound world (first_rows s k) (row_at s k))) → (k < n) ⊎ (n ≤ k) → T (row_sound world (first_rows s k) (row_at s k))
      go f (inl m) = f (and_left (all_over_earlier (row_sound world) [] (first_rows s n)) (row_sound world (first_rows s n) (row_at s n) && true) split) m
      go f (inr m) =
          let e : n ≡ k = omega arith in
          subst (λ (j : ℕ). T (row_sound world (first_rows s j) (row_at s j))) e
          (and_left (row_sound world (first_rows s n) (row_at s n)) true (and_right (all_over_earlier (row_sound world) [] (first_rows s n)) (row_sound world (first_rows s n) (row_at s n) && true) split))

  pub sound-row : (k : ℕ) → k < row_count s → T (row_sound world (first_rows s k) (row_at s k))
  sound-row k l = sound_upto (row_count s) rows-sound-all k l

  pub roles_fit : RolesFit s
  roles_fit k l = ltb→lt (row_at s k).role 256 (row-role world (first_rows s k) (row_at s k) (sound-row k l))

  -- ── a role has one row ──

  -- a row for the role is the first for it
  pub first_for : (u q k : ℕ) → k < row_count s → is_row u q (row_at s k) ≡ true → newest s u q k ≡ 0
  first_for u q k l e = go (lt_or_ge 0 (newest s u q k))
    where
      i : T (is_row u q (row_at s k))
      i = of_true (is_row u q (row_at s k)) e

      again : active (first_rows s k) u q ≡ true → T (active (first_rows s k) (row_at s k).user (row_at s k).role)
      again a = subst⁻¹ (λ (n : ℕ). T (active (first_rows s k) n (row_at s k).role)) (is_row-user u q (row_at s k) i) (subst⁻¹ (λ (n : ℕ). T (active (first_rows s k) u n)) (is_row-role u q (row_at s k) i) (of_true (active (first_rows s k) u q) a))

      go : (0 < newest s u q k) ⊎ (newest s u q k ≤ 0) → newest s u q k ≡ 0
      go (inl m) = absurd (T_not (active (first_rows s k) (row_at s k).user (row_at s k).role) (row_new world (first_rows s k) (row_at s k) (sound-row k l)) (again (newest_some s u q k (λ z. omega arith))))
      go (inr m) = omega arith

  -- a role with a row among the first k has no other row after them
  pub newest-stays : (u q k n : ℕ) → newest s u q k ≢ 0 → k ≤ n → n ≤ row_count s → newest s u q n ≡ newest s u q k
  unfolding newest
  newest-stays u q k zero z l m = let e : k ≡ 0 = omega arith in ap (newest s u q) (sym e)
  newest-stays u q k (suc n) z l m = go (λ a. newest-stays u q k n z a (omega arith)) (lt_or_ge n k)
    where
      step : (b : Bool) → is_row u q (row_at s n) ≡ b → newest s u q n ≡ newest s u q k → cond b (suc n) (newest s u q n) ≡ newest s u q k
      step true r e = absurd (z (sym e ∙ first_for u q n (omega arith) r))
      step false r e = e

      go : (k ≤ n → newest s u q n ≡ newest s u q k) → (n < k) ⊎ (k ≤ n) → newest s u q (suc n) ≡ newest s u q k
      go f (inl a) = let e : k ≡ suc n = omega arith in ap (newest s u q) (sym e)
      go f (inr a) = step (is_row u q (row_at s n)) refl (f a)

-- The effective privileges: what is computed is definition 10, and the user holds them.
use Prim.Native.Nat.{ℕ}
use mathlib.Core.Path.{◌≡◌, refl, ap, subst, subst⁻¹}
use mathlib.Core.Bool.{Bool, true, false, not, ◌&&◌, ◌||◌, cond}
use mathlib.Core.Logic.{◌↔◌, ◌⊎◌, inl, inr}
use mathlib.Core.List.{List, [], ◌∷◌, ◌++◌, reverse, reverse-cons, reverse-append, reverse-reverse, append-nil, append_assoc, Memᴰ}
use lib.Dec.{T, eqb, T_not, not_T}
use Rattle.model.specs.Lists.{any, all_over_earlier}
use Rattle.model.specs.Values.{Policy, State, World, world_of}
use Rattle.model.specs.Conditions.{is_row, active, rests_on}
use Rattle.model.specs.Sound.{row_sound}
use Rattle.model.specs.Effective.{direct, Carries, directly, through, carries, effectively}
use Rattle.model.specs.Calls.{allowed}
use Rattle.model.specs.declared.Row.{Row}
use Rattle.model.specs.Words.{SoundState}
use Rattle.model.proofs.Tests.{and_left, and_right, and_both, or_left, or_right, or_cases, any_of, of_any, decide, is_true, is_false}
use Rattle.model.proofs.Support.{is_row-user, is_row-role, of_active, active_grows, rests_on_active, row_new, row-supported}
use Rattle.model.proofs.Kept.{sound-rows}

-- sound rows, newest first: each is new to those before it and rests on roles active in them
abbrev Stacked : Policy → List Row → Type 0
Stacked p [] = Unit {0}
Stacked p (r ∷ earlier) = (T (not (active earlier r.user r.role)) × ((q : ℕ) → Memᴰ q (rests_on p r) → T (active earlier r.user q))) × Stacked p earlier

module _ (p : Policy) (u x : ℕ) where
  -- ── more rows carry no less ──

  carries_grows : (xs ys : List Row) → ((r : Row) → Memᴰ r xs → Memᴰ r ys) → {q : ℕ} → Carries p xs u x q → Carries p ys u x q
  carries_grows xs ys f (directly r m i d) = directly r (f r m) i d
  carries_grows xs ys f (through r m i lower k c) = through r (f r m) i lower k (carries_grows xs ys f c)

  -- ── what is computed is carried ──

  -- the rows newest first
  computed_carried : (newest : List Row) (q : ℕ) → T (carries p u x newest q) → Carries p newest u x q
  computed_carried [] q t = absurd t
  computed_carried (r ∷ earlier) q t = go (is_row u q r) refl (λ z v. computed_carried earlier z v) t
    where
      older : {z : ℕ} → Carries p earlier u x z → Carries p (r ∷ earlier) u x z
      older c = carries_grows earlier (r ∷ earlier) (λ s m. mathlib.Core.List.Memᴰ.tail m) c

      own : T (is_row u q r) → ((z : ℕ) → T (carries p u x earlier z) → Carries p earlier u x z) → T (direct p q x) ⊎ T (any (λ (z : ℕ). carries p u x earlier z) (rests_on p r)) → Carries p (r ∷ earlier) u x q
      own i f (inl d) = directly r (mathlib.Core.List.Memᴰ.head refl) i d
      own i f (inr v) =
          let w : (z : ℕ) × Memᴰ z (rests_on p r) × T (carries p u x earlier z) = any_of (λ (z : ℕ). carries p u x earlier z) (rests_on p r) v in
          through r (mathlib.Core.List.Memᴰ.head refl) i w.0 w.1 (older (f w.0 w.2))

      go : (b : Bool) → is_row u q r ≡ b → ((z : ℕ) → T (carries p u x earlier z) → Carries p earlier u x z) → T (cond b (direct p q x || any (λ (z : ℕ). carries p u x earlier z) (rests_on p r)) (carries p u x earlier q)) → Carries p (r ∷ earlier) u x q
      go true e f v = own (subst⁻¹ T e tt) f (or_cases (direct p q x) (any (λ (z : ℕ). carries p u x earlier z) (rests_on p r)) v)
      go false e f v = older (f q v)

  -- ── what is carried is computed ──

  -- a role that is active in the earlier rows is not the newest row's
  not_newest : (r : Row) (earlier : List Row) → Stacked p (r ∷ earlier) → (q : ℕ) → T (active earlier u q) → is_row u q r ≡ false
  not_newest r earlier st q a = is_false (is_row u q r) (go (decide (is_row u q r)))
    where
      go : T (is_row u q r) ⊎ T (not (is_row u q r)) → T (not (is_row u q r))
      go (inl i) = absurd (T_not (active earlier r.user r.role) st.0.0 (subst⁻¹ (λ (n : ℕ). T (active earlier n r.role)) (is_row-user u q r i) (subst⁻¹ (λ (n : ℕ). T (active earlier u n)) (is_row-role u q r i) a)))
      go (inr n) = n

  skip_newest : (r : Row) (earlier : List Row) (q : ℕ) → is_row u q r ≡ false → carries p u x (r ∷ earlier) q ≡ carries p u x earlier q
  skip_newest r earlier q e = ap (λ (b : Bool). cond b (direct p q x || any (λ (z : ℕ). carries p u x earlier z) (rests_on p r)) (carries p u x earlier q)) e

  own-newest : (r : Row) (earlier : List Row) (q : ℕ) → T (is_row u q r) → carries p u x (r ∷ earlier) q ≡ (direct p q x || any (λ (z : ℕ). carries p u x earlier z) (rests_on p r))
  own-newest r earlier q i = ap (λ (b : Bool). cond b (direct p q x || any (λ (z : ℕ). carries p u x earlier z) (rests_on p r)) (carries p u x earlier q)) (is_true (is_row u q r) i)

  -- what a stack's row rests on is active in the stack
  rests_in : (newest : List Row) → Stacked p newest → (r : Row) → Memᴰ r newest → (q : ℕ) → Memᴰ q (rests_on p r) → T (active newest r.user q)
  rests_in [] st r m q k = absurd (mathlib.Core.List.Memᴰ.not-nil m)
  rests_in (s ∷ earlier) st r m q k = active_grows earlier (s ∷ earlier) r.user q (λ z v. mathlib.Core.List.Memᴰ.tail v) (go (λ v. rests_in earlier st.1 r v q k) (mathlib.Core.List.Memᴰ.cases_cons m))
    where
      go : (Memᴰ r earlier → T (active earlier r.user q)) → (r ≡ s) ⊎ Memᴰ r earlier → T (active earlier r.user q)
      go f (inl e) = subst⁻¹ (λ (z : Row). T (active earlier z.user q)) e (st.0.1 q (subst (λ (z : Row). Memᴰ q (rests_on p z)) e k))
      go f (inr v) = f v

  direct_computed : (newest : List Row) → Stacked p newest → (q : ℕ) (r : Row) → Memᴰ r newest → T (is_row u q r) → T (direct p q x) → T (carries p u x newest q)
  direct_computed [] st q r m i d = absurd (mathlib.Core.List.Memᴰ.not-nil m)
  direct_computed (s ∷ earlier) st q r m i d = go (λ v. direct_computed earlier st.1 q r v i d) (mathlib.Core.List.Memᴰ.cases_cons m)
    where
      go : (Memᴰ r earlier → T (carries p u x earlier q)) → (r ≡ s) ⊎ Memᴰ r earlier → T (carries p u x (s ∷ earlier) q)
      go f (inl e) = subst⁻¹ T (own-newest s earlier q (subst (λ (z : Row). T (is_row u q z)) e i)) (or_left (direct p q x) (any (λ (z : ℕ). carries p u x earlier z) (rests_on p s)) d)
      go f (inr v) = subst⁻¹ T (skip_newest s earlier q (not_newest s earlier st q (of_active earlier u q r v i))) (f v)

  through_computed : (newest : List Row) → Stacked p newest → (q : ℕ) (r : Row) → Memᴰ r newest → T (is_row u q r) → (lower : ℕ) → Memᴰ lower (rests_on p r) → T (carries p u x newest lower) → T (carries p u x newest q)
  through_computed [] st q r m i lower k c = c
  through_computed (s ∷ earlier) st q r m i lower k c = go (λ v w. through_computed earlier st.1 q r v i lower k w) (mathlib.Core.List.Memᴰ.cases_cons m)
    where
      -- the lower role is active before the newest row, whichever row rests on it
      below : T (active earlier u lower) → T (carries p u x earlier lower)
      below a = subst T (skip_newest s earlier lower (not_newest s earlier st lower a)) c

      go : (Memᴰ r earlier → T (carries p u x earlier lower) → T (carries p u x earlier q)) → (r ≡ s) ⊎ Memᴰ r earlier → T (carries p u x (s ∷ earlier) q)
      go f (inl e) =
          let j : T (is_row u q s) = subst (λ (z : Row). T (is_row u q z)) e i in
          let l : Memᴰ lower (rests_on p s) = subst (λ (z : Row). Memᴰ lower (rests_on p z)) e k in
          subst⁻¹ T (own-newest s earlier q j)
          (or_right (direct p q x) (any (λ (z : ℕ). carries p u x earlier z) (rests_on p s))
          (of_any (λ (z : ℕ). carries p u x earlier z) lower (rests_on p s) l (below (subst (λ (n : ℕ). T (active earlier n lower)) (is_row-user u q s j) (st.0.1 lower l)))))
      go f (inr v) =
          let a : T (active earlier u lower) = subst (λ (n : ℕ). T (active earlier n lower)) (is_row-user u q r i) (rests_in earlier st.1 r v lower k) in
          subst⁻¹ T (skip_newest s earlier q (not_newest s earlier st q (of_active earlier u q r v i))) (f v (below a))

  carried_computed : (newest : List Row) → Stacked p newest → {q : ℕ} → Carries p newest u x q → T (carries p u x newest q)
  carried_computed newest st {q} (directly r m i d) = direct_computed newest st q r m i d
  carried_computed newest st {q} (through r m i lower k c) = through_computed newest st q r m i lower k (carried_computed newest st c)

-- ── sound rows are stacked ──

pub reverse_last : (rows : List Row) (r : Row) → reverse (rows ++ (r ∷ [])) ≡ r ∷ reverse rows
reverse_last rows r = reverse-append rows (r ∷ [])

reverse-member : (rows : List Row) (r : Row) → Memᴰ r rows → Memᴰ r (reverse rows)
reverse-member [] r m = m
reverse-member (s ∷ rows) r m = subst⁻¹ (λ (l : List Row). Memᴰ r l) (reverse-cons s rows) (go (reverse-member rows r) (mathlib.Core.List.Memᴰ.cases_cons m))
  where
    go : (Memᴰ r rows → Memᴰ r (reverse rows)) → (r ≡ s) ⊎ Memᴰ r rows → Memᴰ r (reverse rows ++ (s ∷ []))
    go f (inl e) = mathlib.Core.List.Memᴰ.append_right (reverse rows) (mathlib.Core.List.Memᴰ.head e)
    go f (inr v) = mathlib.Core.List.Memᴰ.append_left (s ∷ []) (f v)

member-reverse : (rows : List Row) (r : Row) → Memᴰ r (reverse rows) → Memᴰ r rows
member-reverse rows r m = subst (λ (l : List Row). Memᴰ r l) (reverse-reverse rows) (reverse-member (reverse rows) r m)

stacked_more : (w : World) (earlier rows : List Row) → Stacked w.policy (reverse earlier) → T (all_over_earlier (row_sound w) earlier rows) → Stacked w.policy (reverse (earlier ++ rows))
stacked_more w earlier [] st t = subst⁻¹ (λ (l : List Row). Stacked w.policy (reverse l)) (append-nil earlier) st
stacked_more w earlier (r ∷ rows) st t =
    subst (λ (l : List Row). Stacked w.policy (reverse l)) (append_assoc earlier (r ∷ []) rows)
    (stacked_more w (earlier ++ (r ∷ [])) rows (subst⁻¹ (λ (l : List Row). Stacked w.policy l) (reverse_last earlier r) ((new, rests), st)) (and_right (row_sound w earlier r) (all_over_earlier (row_sound w) (earlier ++ (r ∷ [])) rows) t))
  where
    here : T (row_sound w earlier r)
    here = and_left (row_sound w earlier r) (all_over_earlier (row_sound w) (earlier ++ (r ∷ [])) rows) t

    new : T (not (active (reverse earlier) r.user r.role))
    new = not_T (active (reverse earlier) r.user r.role) (λ a. T_not (active earlier r.user r.role) (row_new w earlier r here) (active_grows (reverse earlier) earlier r.user r.role (λ z m. member-reverse earlier z m) a))

    rests : (q : ℕ) → Memᴰ q (rests_on w.policy r) → T (active (reverse earlier) r.user q)
    rests q k = active_grows earlier (reverse earlier) r.user q (λ z m. reverse-member earlier z m) (rests_on_active w earlier r (row-supported w earlier r here) q k)

sound_stacked : (p : Policy) (t : State) → SoundState p t → Stacked p (reverse t.rows)
sound_stacked p t h = stacked_more (world_of p t) [] t.rows tt (sound-rows p t h)

-- ── the two ways to say it ──

module _ (p : Policy) (t : State) (h : SoundState p t) (u q x : ℕ) where
  -- what is computed is the least set that definition 10 describes
  pub effectively-carries : T (effectively p t.rows u q x) ↔ Carries p t.rows u x q
  unfolding effectively
  effectively-carries = (
    λ v. carries_grows p u x (reverse t.rows) t.rows (λ r m. member-reverse t.rows r m) (computed_carried p u x (reverse t.rows) q v),
    λ c. carried_computed p u x (reverse t.rows) (sound_stacked p t h) (carries_grows p u x t.rows (reverse t.rows) (λ r m. reverse-member t.rows r m) c),
  )

-- the user is active in a role that has the privilege itself
pub carried-allowed : (p : Policy) (rows : List Row) (u x : ℕ) {q : ℕ} → Carries p rows u x q → T (allowed p rows u x)
unfolding allowed
carried-allowed p rows u x {q} (directly r m i d) =
    of_any (λ (z : Row). eqb z.user u && direct p z.role x) r rows m
    (and_both (eqb r.user u) (direct p r.role x) (and_left (eqb r.user u) (eqb r.role q) i) (subst⁻¹ (λ (n : ℕ). T (direct p n x)) (is_row-role u q r i) d))
carried-allowed p rows u x (through r m i lower k c) = carried-allowed p rows u x c

-- any set closed as definition 10 says holds every role that carries the privilege: it is the least
pub carries-least : (p : Policy) (rows : List Row) (u x : ℕ) (Set : ℕ → Type 0)
    → ((q : ℕ) (r : Row) → Memᴰ r rows → T (is_row u q r) → T (direct p q x) → Set q)
    → ((q : ℕ) (r : Row) → Memᴰ r rows → T (is_row u q r) → (lower : ℕ) → Memᴰ lower (rests_on p r) → Set lower → Set q)
    → {q : ℕ} → Carries p rows u x q → Set q
carries-least p rows u x Set f g {q} (directly r m i d) = f q r m i d
carries-least p rows u x Set f g {q} (through r m i lower k c) = g q r m i lower k (carries-least p rows u x Set f g c)

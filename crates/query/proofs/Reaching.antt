-- Effective: what code finds from the last row down is the model's.
use Prim.Native.Nat.{ℕ, zero, suc, ◌-◌, ◌≤◌, ◌<◌}
use mathlib.Core.Path.{◌≡◌, refl, sym, ap, ◌∙◌, subst, subst⁻¹}
use mathlib.Core.Bool.{Bool, true, false, ◌&&◌, ◌||◌, cond, true≢false}
use mathlib.Core.Logic.{◌⊎◌, inl, inr}
use mathlib.Core.List.{List, [], reverse, Memᴰ}
use native.Mathlib.Omega.{arith}
use lib.Dec.{T, eqb, T_not, not_T}
use borrow.Author.Tests.{eq-eqb, eqb-true}
use lib.ListN.{length, get_or, set, replicate, length-replicate}
use Rattle.model.specs.Lists.{any, joined}
use Rattle.model.specs.Values.{Tables}
use Rattle.model.specs.Layout.{policy_of, row_count}
use Rattle.model.specs.Conditions.{meant, is_row, membership, rule_numbered, roles_asked, rests_on}
use Rattle.model.specs.declared.Row.{Row}
use Rattle.model.specs.Words.{Sound}
use Rattle.model.proofs.Tests.{lt_or_ge, is_true, of_true, is_false, of_false, and_left, and_right, and_both, any_of, of_any, at_place, repeated, place_of}
use Rattle.model.proofs.Support.{is_row-user, is_row-role, joined_of, of_joined}
use Rattle.model.proofs.Carried.{reverse_last}
use Rattle.table.specs.Entries.{row_at, first_rows, without_rights}
use Rattle.table.proofs.Entries.{rows_more}
use Rattle.rests.specs.Newest.{newest}
use Rattle.rests.specs.Asked.{HasAsked, AskedThrough, Grown}
use Rattle.rests.proofs.Asking.{roles-same}
use Rattle.rests.proofs.Marking.{mark_here, mark_only}
use Rattle.direct.specs.Having.{holds_right}
use Rattle.inner.proofs.Codes.{sound-sized}
use Rattle.query.specs.Reached.{carried, reached_in, rest_reaches, Ready, SomeReached, NoneReached, Tells}
use Rattle.query.proofs.Single.{roles_fit, first_for}

module _ (t : Tables) (having : List Bool) (s : List ℕ) (u : ℕ) where
  -- ── one row more ──

  reached_next : (k q : ℕ) (b : Bool) → is_row u q (row_at s k) ≡ b → reached_in t having s u (suc k) q ≡ cond b (holds_right having q || rest_reaches t having s u k) (reached_in t having s u k q)
  unfolding reached_in rest_reaches
  reached_next k q b r =
      ap (λ (l : List Row). carried t having u (reverse l) q) (rows_more s k)
      ∙ ap (λ (l : List Row). carried t having u l q) (reverse_last (first_rows s k) (row_at s k))
      ∙ ap (λ (b : Bool). cond b (holds_right having q || any (λ (lower : ℕ). carried t having u (reverse (first_rows s k)) lower) (rests_on (policy_of t) (row_at s k))) (carried t having u (reverse (first_rows s k)) q)) r

  -- a role that has no row carries nothing
  reached_none : (k q : ℕ) → newest s u q k ≡ 0 → reached_in t having s u k q ≡ false
  unfolding newest reached_in first_rows
  reached_none zero q e = refl
  reached_none (suc k) q e = go (is_row u q (row_at s k)) refl e (reached_none k q)
    where
      go : (b : Bool) → is_row u q (row_at s k) ≡ b → cond b (suc k) (newest s u q k) ≡ 0 → (newest s u q k ≡ 0 → reached_in t having s u k q ≡ false) → reached_in t having s u (suc k) q ≡ false
      go true r z f = absurd (omega arith)
      go false r z f = reached_next k q false r ∙ f z

  reached_beyond : Ready t having s u → (k q : ℕ) → k ≤ row_count s → 256 ≤ q → reached_in t having s u k q ≡ false
  unfolding reached_in first_rows
  reached_beyond h zero q l m = refl
  reached_beyond h (suc k) q l m = go (is_row u q (row_at s k)) refl (reached_beyond h k q (omega arith) m)
    where
      go : (b : Bool) → is_row u q (row_at s k) ≡ b → reached_in t having s u k q ≡ false → reached_in t having s u (suc k) q ≡ false
      go true r f = absurd (omega (arith, h.fits k (omega arith), is_row-role u q (row_at s k) (of_true (is_row u q (row_at s k)) r)))
      go false r f = reached_next k q false r ∙ f

  -- ── the answer for the first rows is that for one row more ──

  pub tell_none : (asked : List Bool) (k : ℕ) → k ≤ 0 → Tells t having s u asked k false false
  unfolding reached_in first_rows
  tell_none asked zero l = record { yes = λ z. absurd (true≢false (sym z)); no = λ z. (refl, λ q m e. refl) }
  tell_none asked (suc k) l = absurd (omega arith)

  -- the row before i, and i
  pub tell_down : (asked : List Bool) (i : ℕ) (r : Bool) → 0 < i → Tells t having s u asked (suc (i - 1)) false r → Tells t having s u asked i false r
  tell_down asked i r l h = let e : suc (i - 1) ≡ i = omega arith in subst (λ (n : ℕ). Tells t having s u asked n false r) e h

  module _ (asked : List Bool) (k : ℕ) (row : Row) (e : row ≡ row_at s k) where
    -- the row of a role that is marked is asked
    asked-row : (q : ℕ) → get_or asked q false ≡ true → is_row u q row ≡ true → (eqb row.user u && get_or asked row.role false) ≡ true
    asked-row q m r =
        let i = of_true (is_row u q row) r in
        is_true (eqb row.user u && get_or asked row.role false)
        (and_both (eqb row.user u) (get_or asked row.role false) (and_left (eqb row.user u) (eqb row.role q) i) (of_true (get_or asked row.role false) (ap (λ (n : ℕ). get_or asked n false) (is_row-role u q row i) ∙ m)))

    pub tell_other : (r : Bool) → (eqb row.user u && get_or asked row.role false) ≡ false → Tells t having s u asked k false r → Tells t having s u asked (suc k) false r
    tell_other r n h = record { yes = λ z. yes (h.yes z); no = λ z. (refl, λ q l m. same q m ∙ (h.no z).1 q l m) }
      where
        same : (q : ℕ) → get_or asked q false ≡ true → reached_in t having s u (suc k) q ≡ reached_in t having s u k q
        same q m = go (is_row u q row) refl
          where
            go : (b : Bool) → is_row u q row ≡ b → reached_in t having s u (suc k) q ≡ reached_in t having s u k q
            go true r = absurd (true≢false (sym (asked-row q m r) ∙ n))
            go false r = reached_next k q false (ap (is_row u q) (sym e) ∙ r)

        yes : (false ≡ true) ⊎ SomeReached t having s u asked k → (false ≡ true) ⊎ SomeReached t having s u asked (suc k)
        yes (inl z) = inl z
        yes (inr f) = inr (f.0, f.1, f.2, same f.0 f.2 ∙ f.3)

    module _ (fits : row.role < 256) (there : (eqb row.user u && get_or asked row.role false) ≡ true) where
      marked : get_or asked row.role false ≡ true
      marked = is_true (get_or asked row.role false) (and_right (eqb row.user u) (get_or asked row.role false) (of_true (eqb row.user u && get_or asked row.role false) there))

      of_the_user : row.user ≡ u
      of_the_user = eqb-true row.user u (is_true (eqb row.user u) (and_left (eqb row.user u) (get_or asked row.role false) (of_true (eqb row.user u && get_or asked row.role false) there)))

      own : is_row u row.role (row_at s k) ≡ true
      own = ap (is_row u row.role) (sym e) ∙ is_true (is_row u row.role row) (and_both (eqb row.user u) (eqb row.role row.role) (of_true (eqb row.user u) (eq-eqb row.user u of_the_user)) (of_true (eqb row.role row.role) (eq-eqb row.role row.role refl)))

      pub tell_own : holds_right having row.role ≡ true → Tells t having s u asked (suc k) false true
      tell_own h = record { yes = λ z. inr (row.role, fits, marked, reached_next k row.role true own ∙ ap (λ (b : Bool). b || rest_reaches t having s u k) h); no = λ z. absurd (true≢false z) }

      pub tell_row : Ready t having s u → k < row_count s → (r : Bool) → holds_right having row.role ≡ false → Tells t having s u asked k (rest_reaches t having s u k) r → Tells t having s u asked (suc k) false r
      tell_row g l r h f = record { yes = λ z. yes (f.yes z); no = λ z. (refl, λ q m a. none q (f.no z).0 ((f.no z).1 q m a)) }
        where
          itself : (q : ℕ) → is_row u q (row_at s k) ≡ true → reached_in t having s u (suc k) q ≡ rest_reaches t having s u k
          itself q i =
              let at : row.role ≡ q = ap (λ (x : Row). x.role) e ∙ is_row-role u q (row_at s k) (of_true (is_row u q (row_at s k)) i) in
              reached_next k q true i ∙ ap (λ (b : Bool). b || rest_reaches t having s u k) (ap (holds_right having) (sym at) ∙ h)

          before : (q : ℕ) → is_row u q (row_at s k) ≡ true → reached_in t having s u k q ≡ false
          before q i =
              let j = of_true (is_row u q (row_at s k)) i in
              ap (reached_in t having s u k) (sym (is_row-role u q (row_at s k) j)) ∙ g.once k l (is_row-user u q (row_at s k) j)

          some : (q : ℕ) → (b : Bool) → is_row u q (row_at s k) ≡ b → reached_in t having s u k q ≡ true → reached_in t having s u (suc k) q ≡ true
          some q true i a = absurd (true≢false (sym a ∙ before q i))
          some q false i a = reached_next k q false i ∙ a

          yes : (rest_reaches t having s u k ≡ true) ⊎ SomeReached t having s u asked k → (false ≡ true) ⊎ SomeReached t having s u asked (suc k)
          yes (inl z) = inr (row.role, fits, marked, itself row.role own ∙ z)
          yes (inr a) = inr (a.0, a.1, a.2, some a.0 (is_row u a.0 (row_at s k)) refl a.3)

          none : (q : ℕ) → rest_reaches t having s u k ≡ false → reached_in t having s u k q ≡ false → reached_in t having s u (suc k) q ≡ false
          none q z a = go (is_row u q (row_at s k)) refl
            where
              go : (b : Bool) → is_row u q (row_at s k) ≡ b → reached_in t having s u (suc k) q ≡ false
              go true i = itself q i ∙ z
              go false i = reached_next k q false i ∙ a

-- ── more is marked ──

module _ (rules kinds : List ℕ) (having : List Bool) (s : List ℕ) (u : ℕ) where
  abbrev tables : Tables
  tables = without_rights rules kinds

  abbrev asks : ℕ → List ℕ
  asks c = roles_asked (policy_of (without_rights [] kinds)) (meant c)

  module _ (k : ℕ) (row : Row) (e : row ≡ row_at s k) (a b : List Bool) where
    abbrev own_conditions : List ℕ
    own_conditions = membership (rule_numbered (policy_of (without_rights rules [])) row.rule)

    rests_asks : rests_on (policy_of tables) (row_at s k) ≡ joined asks own_conditions
    unfolding rests_on policy_of
    rests_asks = ap (rests_on (policy_of tables)) (sym e) ∙ same own_conditions
      where
        same : (cs : List ℕ) → joined (λ (c : ℕ). roles_asked (policy_of tables) (meant c)) cs ≡ joined asks cs
        same cs = λ i. joined (λ (c : ℕ). roles-same (policy_of tables) (policy_of (without_rights [] kinds)) refl (meant c) i) cs

    -- a role that one of the conditions asks for
    named : (q : ℕ) → reached_in tables having s u k q ≡ true → (j : ℕ) × (j < length own_conditions) × Memᴰ q (asks (get_or own_conditions j 0)) → rest_reaches tables having s u k ≡ true
    unfolding rest_reaches
    named q r h = is_true (any (reached_in tables having s u k) (rests_on (policy_of tables) (row_at s k))) (of_any (reached_in tables having s u k) q (rests_on (policy_of tables) (row_at s k)) (subst⁻¹ (Memᴰ q) rests_asks (of_joined asks own_conditions (get_or own_conditions h.0 0) q (at_place own_conditions h.0 0 h.1) h.2)) (of_true (reached_in tables having s u k q) r))

    some_grown : Grown kinds a b own_conditions (length own_conditions) → SomeReached tables having s u b k → (rest_reaches tables having s u k ≡ true) ⊎ SomeReached tables having s u a k
    some_grown g f = go (g.only f.0 f.1 f.2)
      where
        go : (get_or a f.0 false ≡ true) ⊎ ((j : ℕ) × (j < length own_conditions) × Memᴰ f.0 (asks (get_or own_conditions j 0))) → (rest_reaches tables having s u k ≡ true) ⊎ SomeReached tables having s u a k
        go (inl m) = inr (f.0, f.1, m, f.3)
        go (inr m) = inl (named f.0 f.3 m)

    -- some of what the row rests on is marked
    pub tell_part : (r : Bool) → Grown kinds a b own_conditions (length own_conditions) → Tells tables having s u b k (rest_reaches tables having s u k) r → Tells tables having s u a k (rest_reaches tables having s u k) r
    tell_part r g h = record { yes = λ z. yes (h.yes z); no = λ z. ((h.no z).0, λ q l m. (h.no z).1 q l (g.keeps q m)) }
      where
        yes : (rest_reaches tables having s u k ≡ true) ⊎ SomeReached tables having s u b k → (rest_reaches tables having s u k ≡ true) ⊎ SomeReached tables having s u a k
        yes (inl z) = inl z
        yes (inr f) = some_grown g f

    -- all of it is
    pub tell_all : Ready tables having s u → k ≤ row_count s → (r : Bool) → Grown kinds a b own_conditions (length own_conditions) → ((j : ℕ) → j < length own_conditions → HasAsked kinds b (get_or own_conditions j 0)) → Tells tables having s u b k false r → Tells tables having s u a k (rest_reaches tables having s u k) r
    unfolding rest_reaches
    tell_all y l r g f h = record { yes = λ z. yes (h.yes z); no = λ z. (none (h.no z).1, λ q m o. (h.no z).1 q m (g.keeps q o)) }
      where
        yes : (false ≡ true) ⊎ SomeReached tables having s u b k → (rest_reaches tables having s u k ≡ true) ⊎ SomeReached tables having s u a k
        yes (inl z) = absurd (true≢false (sym z))
        yes (inr x) = some_grown g x

        none : NoneReached tables having s u b k → rest_reaches tables having s u k ≡ false
        none n = is_false (any (reached_in tables having s u k) (rests_on (policy_of tables) (row_at s k))) (not_T (any (reached_in tables having s u k) (rests_on (policy_of tables) (row_at s k))) (λ x. hit (any_of (reached_in tables having s u k) (rests_on (policy_of tables) (row_at s k)) x)))
          where
            missed : (q : ℕ) → (q < 256) ⊎ (256 ≤ q) → (j : ℕ) × (j < length own_conditions) × Memᴰ q (asks (get_or own_conditions j 0)) → reached_in tables having s u k q ≡ false
            missed q (inl m) o = n q m (f o.0 o.1 q m o.2)
            missed q (inr m) o = reached_beyond tables having s u y k q l m

            placed : (q : ℕ) → (c : ℕ) × Memᴰ c own_conditions × Memᴰ q (asks c) → (j : ℕ) × (j < length own_conditions) × Memᴰ q (asks (get_or own_conditions j 0))
            placed q o = let p = place_of own_conditions 0 o.0 o.1 in (p.0, p.1, subst (λ (c : ℕ). Memᴰ q (asks c)) p.2 o.2)

            hit : (q : ℕ) × Memᴰ q (rests_on (policy_of tables) (row_at s k)) × T (reached_in tables having s u k q) → ⊥
            hit x = T_not (reached_in tables having s u k x.0) (of_false (reached_in tables having s u k x.0) (missed x.0 (lt_or_ge x.0 256) (placed x.0 (joined_of asks own_conditions x.0 (subst (Memᴰ x.0) rests_asks x.1))))) x.2

-- on sound tables
pub ready : (t full : Tables) (having : List Bool) (s : List ℕ) (u : ℕ) → Sound full s → Ready t having s u
ready t full having s u h =
    record {
      sized = sound-sized full s h;
      fits = roles_fit full s h;
      once = λ i l e. reached_none t having s u i (row_at s i).role (first_for full s h u (row_at s i).role i l (own i e));
    }
  where
    own : (i : ℕ) → (row_at s i).user ≡ u → is_row u (row_at s i).role (row_at s i) ≡ true
    own i e = λ j. eq-eqb (row_at s i).user u e j && eq-eqb (row_at s i).role (row_at s i).role refl j

-- ── one role is asked at first ──

module _ (w : ℕ) (l : w < 256) where
  only_one : (q : ℕ) → get_or (set (replicate 384 false) w true) q false ≡ true → w ≡ q
  only_one q h = go (mark_only (replicate 384 false) w (omega (arith, length-replicate 384 false)) q h)
    where
      go : (w ≡ q) ⊎ (get_or (replicate 384 false) q false ≡ true) → w ≡ q
      go (inl e) = e
      go (inr m) = absurd (true≢false (sym m ∙ repeated false 384 q))

  pub alone_closed : (kinds : List ℕ) → AskedThrough kinds (set (replicate 384 false) w true)
  alone_closed kinds c k m = absurd (omega (arith, only_one c m))

  pub alone_tells : (t : Tables) (having : List Bool) (s : List ℕ) (u k : ℕ) (r : Bool) → Tells t having s u (set (replicate 384 false) w true) k false r → r ≡ reached_in t having s u k w
  alone_tells t having s u k true h = go (h.yes refl)
    where
      go : (false ≡ true) ⊎ SomeReached t having s u (set (replicate 384 false) w true) k → true ≡ reached_in t having s u k w
      go (inl z) = absurd (true≢false (sym z))
      go (inr f) = sym f.3 ∙ ap (reached_in t having s u k) (sym (only_one f.0 f.2))
  alone_tells t having s u k false h = sym ((h.no refl).1 w l (mark_here (replicate 384 false) w (omega (arith, length-replicate 384 false)) w refl))

-- Chain: what code writes role by role is the model's walk. On sound tables no role is written twice, and the list has room.
use Prim.Native.Nat.{ℕ, zero, suc, ◌+◌, ◌-◌, ◌≤◌, ◌<◌, min}
use mathlib.Core.Path.{◌≡◌, refl, sym, ap, ◌∙◌, subst}
use mathlib.Core.Bool.{Bool, true, false, not, ◌||◌, cond, true≢false}
use mathlib.Core.Logic.{◌⊎◌, inl, inr, ◌≢◌}
use mathlib.Core.List.Memᴰ
use mathlib.Core.List.{List, [], ◌∷◌, ◌++◌, append-nil, append_assoc, Memᴰ}
use native.Mathlib.Omega.{arith}
use lib.Dec.{T, eqb, ltb, eqb→eq, ltb→lt, not_T}
use borrow.Author.Tests.{lt-ltb, le-ltb}
use lib.ListN.{length, get_or, take, drop, set, replicate, length-take, length-drop, length-replicate, get_or-replicate, take-append-drop}
use lib.Seq.{take-suc-set, get_or-take, get_or-drop, ext_get_or}
use native.Mathlib.Numerals.{add-one}
use Rattle.model.specs.Lists.{among, those, joined, filled_to}
use Rattle.model.specs.Values.{Tables, Policy, World, world_of}
use Rattle.model.specs.Layout.{policy_of, decode, row_count}
use Rattle.model.specs.Conditions.{is_row, active, rests_on}
use Rattle.model.specs.Chain.{written, some_twice}
use Rattle.model.specs.Words.{Sound}
use Rattle.model.specs.declared.Row.{Row}
use Rattle.model.proofs.Tests.{is_true, is_false, any_of}
use Rattle.model.proofs.Parts.{without-append}
use Rattle.model.proofs.Support.{is_row-user, is_row-role, rests_on_active, row-role, row-supported}
use Rattle.table.specs.Entries.{row_at, first_rows}
use Rattle.table.proofs.Entries.{rows_more}
use Rattle.table.specs.Writes.{Zeroed}
use Rattle.rests.specs.Newest.{newest}
use Rattle.rests.proofs.Newest.{row_for_lem, newest-active, newest-within}
use Rattle.query.proofs.Single.{sound-row, first_for, newest-stays}

-- what is still to be written from a role on, at most so many roles; 256 stands for no role
abbrev pub onward : Tables → List ℕ → ℕ → ℕ → ℕ → List ℕ
onward t s u most q = cond (ltb q 256) (written (policy_of t) (decode s).rows u most q) []

module _ (t : Tables) (s : List ℕ) (h : Sound t s) (u : ℕ) where
  abbrev policy : Policy
  policy = policy_of t

  abbrev rows : List Row
  rows = (decode s).rows

  abbrev world : World
  world = world_of policy (decode s)

  -- the rows for the role, among the first n: none, or the newest alone
  those-none : (q n : ℕ) → newest s u q n ≡ 0 → those (is_row u q) (first_rows s n) ≡ []
  unfolding newest first_rows
  those-none q zero e = refl
  those-none q (suc n) e = go (is_row u q (row_at s n)) refl e (those-none q n)
    where
      go : (b : Bool) → is_row u q (row_at s n) ≡ b → cond b (suc n) (newest s u q n) ≡ 0 → (newest s u q n ≡ 0 → those (is_row u q) (first_rows s n) ≡ []) → those (is_row u q) (first_rows s (suc n)) ≡ []
      go true r z f = absurd (omega arith)
      go false r z f =
          ap (those (is_row u q)) (rows_more s n)
          ∙ without-append (λ (x : Row). not (is_row u q x)) (first_rows s n) (row_at s n ∷ [])
          ∙ (λ j. f z j ++ cond (not (r j)) [] (row_at s n ∷ []))

  those_one : (q n p : ℕ) → n ≤ row_count s → p ≡ newest s u q n → p ≢ 0 → those (is_row u q) (first_rows s n) ≡ row_at s (p - 1) ∷ []
  unfolding newest
  those_one q zero p l e z = absurd (z e)
  those_one q (suc n) p l e z = go (is_row u q (row_at s n)) refl e (those_one q n p)
    where
      split : those (is_row u q) (first_rows s (suc n)) ≡ those (is_row u q) (first_rows s n) ++ cond (not (is_row u q (row_at s n))) [] (row_at s n ∷ [])
      split = ap (those (is_row u q)) (rows_more s n) ∙ without-append (λ (x : Row). not (is_row u q x)) (first_rows s n) (row_at s n ∷ [])

      go : (b : Bool) → is_row u q (row_at s n) ≡ b → p ≡ cond b (suc n) (newest s u q n) → (n ≤ row_count s → p ≡ newest s u q n → p ≢ 0 → those (is_row u q) (first_rows s n) ≡ row_at s (p - 1) ∷ []) → those (is_row u q) (first_rows s (suc n)) ≡ row_at s (p - 1) ∷ []
      go true r w f =
          let at : n ≡ p - 1 = omega arith in
          split ∙ (λ j. those-none q n (first_for t s h u q n (omega arith) r) j ++ cond (not (r j)) [] (row_at s n ∷ [])) ∙ ap (λ (k : ℕ). row_at s k ∷ []) at
      go false r w f = split ∙ (λ j. f (omega arith) w z j ++ cond (not (r j)) [] (row_at s n ∷ []))

  -- ── one step of the walk ──

  -- the row at which a role with a row among the first k stands
  abbrev row_for : ℕ → ℕ → Row
  row_for q k = row_at s (newest s u q k - 1)

  one_row : (q k : ℕ) → newest s u q k ≢ 0 → k ≤ row_count s → those (is_row u q) rows ≡ row_for q k ∷ []
  unfolding decode first_rows
  one_row q k z l = those_one q (row_count s) (newest s u q (row_count s)) (omega arith) refl (λ e. z (sym (newest-stays t s h u q k (row_count s) z l (omega arith)) ∙ e)) ∙ ap (λ (n : ℕ). row_at s (n - 1) ∷ []) (newest-stays t s h u q k (row_count s) z l (omega arith))

  -- what it rests on stands in rows before it, and is a role
  pub rests_before : (q k z : ℕ) → newest s u q k ≢ 0 → k ≤ row_count s → Memᴰ z (rests_on policy (row_for q k)) → newest s u z (newest s u q k - 1) ≢ 0
  rests_before q k z n l m e =
      true≢false
      (sym (is_true (active (first_rows s (newest s u q k - 1)) u z)
      (subst (λ (w : ℕ). T (active (first_rows s (newest s u q k - 1)) w z)) (is_row-user u q (row_for q k) (row_for_lem s u q k n))
      (rests_on_active world (first_rows s (newest s u q k - 1)) (row_for q k) (row-supported world (first_rows s (newest s u q k - 1)) (row_for q k) (sound-row t s h (newest s u q k - 1) (omega (arith, newest-within s u q k, n)))) z m)))
      ∙ newest-active s u z (newest s u q k - 1) e)

  pub is_role_lem : (q k : ℕ) → newest s u q k ≢ 0 → k ≤ row_count s → q < 256
  is_role_lem q k z l = subst (λ (w : ℕ). w < 256) (is_row-role u q (row_for q k) (row_for_lem s u q k z)) (ltb→lt (row_for q k).role 256 (row-role world (first_rows s (newest s u q k - 1)) (row_for q k) (sound-row t s h (newest s u q k - 1) (omega (arith, newest-within s u q k, z)))))

  -- a role is written, and then what its row rests on first
  written_step : (most q k : ℕ) → newest s u q k ≢ 0 → k ≤ row_count s → written policy rows u (suc most) q ≡ q ∷ onward t s u most (get_or (rests_on policy (row_for q k)) 0 256)
  written_step most q k z l =
      ap (λ (rs : List Row). q ∷ joined (λ (lower : ℕ). written policy rows u most lower) (take 1 (joined (rests_on policy) rs))) (one_row q k z l)
      ∙ ap (λ (ls : List ℕ). q ∷ joined (λ (lower : ℕ). written policy rows u most lower) (take 1 ls)) (append-nil (rests_on policy (row_for q k)))
      ∙ ap (λ (ls : List ℕ). q ∷ ls) (go (rests_on policy (row_for q k)) (λ w m. is_role_lem w (newest s u q k - 1) (rests_before q k w z l m) (omega (arith, newest-within s u q k))))
    where
      go : (ls : List ℕ) → ((w : ℕ) → Memᴰ w ls → w < 256) → joined (λ (lower : ℕ). written policy rows u most lower) (take 1 ls) ≡ onward t s u most (get_or ls 0 256)
      go [] f = refl
      go (w ∷ ls) f = append-nil (written policy rows u most w) ∙ sym (ap (λ (b : Bool). cond b (written policy rows u most w) []) (lt-ltb w 256 (f w (Memᴰ.head refl))))

  -- ── no role is written twice ──

  -- what is written from the first of some roles on is written from one of them
  from_some : (most w : ℕ) (ls : List ℕ) → Memᴰ w (onward t s u most (get_or ls 0 256)) → (q : ℕ) × Memᴰ q ls × Memᴰ w (written policy rows u most q)
  from_some most w [] m = absurd (Memᴰ.not-nil m)
  from_some most w (q ∷ ls) m = go (ltb q 256) m
    where
      go : (b : Bool) → Memᴰ w (cond b (written policy rows u most q) []) → (z : ℕ) × Memᴰ z (q ∷ ls) × Memᴰ w (written policy rows u most z)
      go true k = (q, Memᴰ.head refl, k)
      go false k = absurd (Memᴰ.not-nil k)

  -- every role written from q on has its row among the first k, if q has
  written-within : (most q k : ℕ) → newest s u q k ≢ 0 → k ≤ row_count s → (w : ℕ) → Memᴰ w (written policy rows u most q) → newest s u w k ≢ 0
  written-within zero q k z l w m = absurd (Memᴰ.not-nil m)
  written-within (suc most) q k z l w m = go (λ lower f. written-within most lower (newest s u q k - 1) f (omega (arith, newest-within s u q k)) w) (Memᴰ.cases_cons (subst (λ (ls : List ℕ). Memᴰ w ls) (written_step most q k z l) m))
    where
      go : ((lower : ℕ) → newest s u lower (newest s u q k - 1) ≢ 0 → Memᴰ w (written policy rows u most lower) → newest s u w (newest s u q k - 1) ≢ 0)
          → (w ≡ q) ⊎ Memᴰ w (onward t s u most (get_or (rests_on policy (row_for q k)) 0 256)) → newest s u w k ≢ 0
      go f (inl e) n = z (ap (λ (x : ℕ). newest s u x k) (sym e) ∙ n)
      go f (inr v) n =
          let some : (lower : ℕ) × Memᴰ lower (rests_on policy (row_for q k)) × Memᴰ w (written policy rows u most lower) = from_some most w (rests_on policy (row_for q k)) v in
          let before : newest s u w (newest s u q k - 1) ≢ 0 = f some.0 (rests_before q k some.0 z l some.1) some.2 in
          before (sym (newest-stays t s h u w (newest s u q k - 1) k before (omega (arith, newest-within s u q k)) l) ∙ n)

  -- the role is not among those written after it: they have rows before its own
  not_after : (most q k : ℕ) → newest s u q k ≢ 0 → k ≤ row_count s → among (onward t s u most (get_or (rests_on policy (row_for q k)) 0 256)) q ≡ false
  not_after most q k z l = is_false (among (onward t s u most (get_or (rests_on policy (row_for q k)) 0 256)) q) (not_T (among (onward t s u most (get_or (rests_on policy (row_for q k)) 0 256)) q) again)
    where
      again : T (among (onward t s u most (get_or (rests_on policy (row_for q k)) 0 256)) q) → ⊥
      again a =
          let found : (w : ℕ) × Memᴰ w (onward t s u most (get_or (rests_on policy (row_for q k)) 0 256)) × T (eqb q w) = any_of (eqb q) (onward t s u most (get_or (rests_on policy (row_for q k)) 0 256)) a in
          let some : (lower : ℕ) × Memᴰ lower (rests_on policy (row_for q k)) × Memᴰ found.0 (written policy rows u most lower) = from_some most found.0 (rests_on policy (row_for q k)) found.1 in
          written-within most some.0 (newest s u q k - 1) (rests_before q k some.0 z l some.1) (omega (arith, newest-within s u q k)) found.0 some.2
          (ap (λ (x : ℕ). newest s u x (newest s u q k - 1)) (sym (eqb→eq q found.0 found.2)) ∙ first_for t s h u q (newest s u q k - 1) (omega (arith, newest-within s u q k, z)) (is_true (is_row u q (row_for q k)) (row_for_lem s u q k z)))

  pub never_twice : (most q k : ℕ) → newest s u q k ≢ 0 → k ≤ row_count s → some_twice (written policy rows u most q) ≡ false
  never_twice zero q k z l = refl
  never_twice (suc most) q k z l =
      ap some_twice (written_step most q k z l)
      ∙ (λ j. not_after most q k z l j || rest (rests_on policy (row_for q k)) (λ lower m. never_twice most lower (newest s u q k - 1) (rests_before q k lower z l m) (omega (arith, newest-within s u q k))) j)
    where
      rest : (ls : List ℕ) → ((lower : ℕ) → Memᴰ lower ls → some_twice (written policy rows u most lower) ≡ false) → some_twice (onward t s u most (get_or ls 0 256)) ≡ false
      rest [] f = refl
      rest (q ∷ ls) f = go (ltb q 256)
        where
          go : (b : Bool) → some_twice (cond b (written policy rows u most q) []) ≡ false
          go true = f q (Memᴰ.head refl)
          go false = refl

  -- ── the walk, as code writes it ──

  pub walk_starts : (q : ℕ) (list : List ℕ) → q < 256 → written policy rows u 257 q ≡ take 0 list ++ onward t s u 257 q
  walk_starts q list l = sym (ap (λ (b : Bool). cond b (written policy rows u 257 q) []) (lt-ltb q 256 l))

  pub walk_goes_on : (whole list : List ℕ) (n k q lower : ℕ) → n < 256 → length list ≡ 256 → q < 256 → newest s u q k ≢ 0 → k ≤ row_count s → lower ≡ get_or (rests_on policy (row_for q k)) 0 256
      → whole ≡ take n list ++ onward t s u (257 - n) q → whole ≡ take (n + 1) (set list n q) ++ onward t s u (257 - (n + 1)) lower
  walk_goes_on whole list n k q lower r size l z m e a =
      let one : 257 - n ≡ suc (256 - n) = omega arith in
      let rest : 256 - n ≡ 257 - (n + 1) = omega arith in
      a
      ∙ ap (λ (ls : List ℕ). take n list ++ ls) (ap (λ (b : Bool). cond b (written policy rows u (257 - n) q) []) (lt-ltb q 256 l) ∙ ap (λ (most : ℕ). written policy rows u most q) one ∙ written_step (256 - n) q k z m)
      ∙ sym (append_assoc (take n list) (q ∷ []) (onward t s u (256 - n) (get_or (rests_on policy (row_for q k)) 0 256)))
      ∙ (λ j. sym (ap (λ (i : ℕ). take i (set list n q)) (add-one n) ∙ take-suc-set list n q (omega arith)) j ++ onward t s u (rest j) (sym e j))

  pub walk_ends : (whole list : List ℕ) (n q : ℕ) → 256 ≤ q → whole ≡ take n list ++ onward t s u (257 - n) q → whole ≡ take n list
  walk_ends whole list n q l a = a ∙ ap (λ (b : Bool). take n list ++ cond b (written policy rows u (257 - n) q) []) (le-ltb q 256 l) ∙ append-nil (take n list)

-- a list of which the first n numbers stay and the others are cleared
pub filled : (list list' : List ℕ) (n : ℕ) → n ≤ 256 → length list ≡ 256 → Zeroed list list' n 256 → list' ≡ filled_to 256 (take n list)
filled list list' n l size z =
    sym (take-append-drop n list')
    ∙ (λ j. front j ++ behind j)
  where
    front : take n list' ≡ take n list
    front =
        ext_get_or 0 (take n list') (take n list) (length-take n list' ∙ ap (min n) z.size ∙ sym (length-take n list))
        (λ i m. let k : i < n = omega (arith, length-take n list') in get_or-take n list' i 0 k ∙ z.below i k ∙ sym (get_or-take n list i 0 k))

    behind : drop n list' ≡ replicate (256 - length (take n list)) 0
    behind =
        ext_get_or 0 (drop n list') (replicate (256 - length (take n list)) 0) (length-drop n list' ∙ omega (arith, z.size, length-take n list, length-replicate {A = ℕ} (256 - length (take n list)) 0))
        (λ i m. get_or-drop n list' i 0 ∙ z.inside (n + i) (omega arith) (omega (arith, length-drop n list', z.size)) ∙ sym (get_or-replicate {A = ℕ} (256 - length (take n list)) i 0 0 (omega (arith, length-drop n list', z.size, length-take n list))))

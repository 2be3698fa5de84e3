-- The walk of a chain, row by row: what code has written, and the row that it goes on to.
use Prim.Native.Nat.{ℕ, suc, ◌+◌, ◌-◌, ◌≤◌, ◌<◌}
use mathlib.Core.Path.{◌≡◌, refl, sym, ap, ◌∙◌, subst, subst⁻¹}
use mathlib.Core.Bool.{Bool, true, false, cond}
use mathlib.Core.Logic.{◌≢◌}
use mathlib.Core.List.{List, [], ◌∷◌, ◌++◌, Memᴰ}
use native.Mathlib.Omega.{arith}
use lib.Dec.{T}
use lib.ListN.{length, get_or, take, set, length-set}
use Rattle.std.proofs.Common.{Option, Some, None, is_some}
use Rattle.model.specs.Values.{Tables}
use Rattle.std.specs.List.{slice_get}
use Rattle.model.specs.Layout.{policy_of, decode, row_count}
use Rattle.model.specs.Conditions.{is_row, rests_on}
use Rattle.model.specs.Chain.{written}
use Rattle.model.specs.Words.{Sound}
use Rattle.model.specs.declared.Row.{Row}
use Rattle.model.proofs.Tests.{is_true}
use Rattle.model.proofs.Support.{is_row-role}
use Rattle.table.specs.Entries.{row_at, without_rights, lent}
use Rattle.rests.specs.Newest.{newest, before}
use Rattle.rests.proofs.Newest.{before_some, before_none, newest-within, row_for_lem}
use Rattle.rests.proofs.Stepping.{rests_same, some-first, no-first}
use Rattle.query.specs.Below.{place_for, row_below}
use Rattle.query.proofs.Chaining.{onward, rests_before, is_role_lem, walk_starts, walk_goes_on, walk_ends}
use Rattle.inner.proofs.Codes.{sound-sized}

-- how many rows are left from the next one down, and its role; 256 stands for none
abbrev pub reach : Option ℕ → ℕ
reach None = 0
reach (Some k) = suc k

abbrev pub role_at : List ℕ → Option ℕ → ℕ
role_at s None = 256
role_at s (Some k) = (row_at s k).role

-- of a chain from the role q the first n roles stand in the list, and it goes on from the next row
pub record Walking (rules kinds rights s : List ℕ) (u q : ℕ) (list : List ℕ) (n : ℕ) (next : Option ℕ) : Type 0 where
  pub size : length list ≡ 256
  pub room : n + reach next ≤ row_count s
  pub of_user : (k : ℕ) → next ≡ Some k → T (is_row u (row_at s k).role (row_at s k))
  pub walked : written (policy_of (lent rules kinds rights)) (decode s).rows u 257 q ≡ take n list ++ onward (lent rules kinds rights) s u (257 - n) (role_at s next)

module _ (s : List ℕ) (u q k : ℕ) where
  -- the place of the newest of k rows: the row is the user's, for the role, and among them
  found_role : (i : ℕ) → newest s u q k ≡ suc i → (row_at s i).role ≡ q
  found_role i e =
      let there : newest s u q k ≢ 0 = λ z. omega arith in
      let at : newest s u q k - 1 ≡ i = omega arith in
      ap (λ (n : ℕ). (row_at s n).role) (sym at) ∙ is_row-role u q (row_at s (newest s u q k - 1)) (row_for_lem s u q k there)

  found_user : (i : ℕ) → newest s u q k ≡ suc i → T (is_row u (row_at s i).role (row_at s i))
  found_user i e =
      let there : newest s u q k ≢ 0 = λ z. omega arith in
      let at : newest s u q k - 1 ≡ i = omega arith in
      subst⁻¹ (λ (r : ℕ). T (is_row u r (row_at s i))) (found_role i e) (subst (λ (n : ℕ). T (is_row u q (row_at s n))) at (row_for_lem s u q k there))

some_is : {i j : ℕ} → Some i ≡ Some j → i ≡ j
some_is p = cc

first_in : (xs : List ℕ) (x : ℕ) → Some x ≡ slice_get xs 0 → Memᴰ x xs
first_in [] x e = absurd (cc)
first_in (y ∷ xs) x e = let p : x ≡ y = cc in Memᴰ.head p

-- whether there is a newest row, as a test tells of its place
pub none_newest : (n : ℕ) (place : Option ℕ) → place ≡ before n → is_some place ≡ false → n ≡ 0
none_newest n None e f = before_none n e
none_newest n (Some i) e f = absurd (cc)

pub some_newest : (n : ℕ) (place : Option ℕ) → place ≡ before n → is_some place ≡ true → n ≢ 0
some_newest n None e f z = absurd (cc)
some_newest n (Some i) e f z = let at : n ≡ suc i = before_some n i e in omega arith

-- the row below stands below
place_within : (s : List ℕ) (u k : ℕ) (asked next : Option ℕ) → next ≡ place_for s u k asked → reach next ≤ k
place_within s u k None None e = omega arith
place_within s u k None (Some j) e = absurd (cc)
place_within s u k (Some q) None e = omega arith
place_within s u k (Some q) (Some j) e = let at : newest s u q k ≡ suc j = before_some (newest s u q k) j e in omega (arith, newest-within s u q k)

pub row_within : (t : Tables) (s : List ℕ) (u k : ℕ) (next : Option ℕ) → next ≡ row_below t s u k → reach next ≤ k
row_within t s u k next e = place_within s u k (slice_get (rests_on (policy_of t) (row_at s k)) 0) next e

-- row k, which is the user's for its role, is the newest of the rows up to it
own_newest : (s : List ℕ) (u k : ℕ) → T (is_row u (row_at s k).role (row_at s k)) → newest s u (row_at s k).role (suc k) ≡ suc k
unfolding newest
own_newest s u k h = ap (λ (b : Bool). cond b (suc k) (newest s u (row_at s k).role k)) (is_true (is_row u (row_at s k).role (row_at s k)) h)

module _ {rules kinds rights s : List ℕ} (h : Sound (lent rules kinds rights) s) {u q : ℕ} where
  -- ── at the beginning ──

  pub walk-begins : {list : List ℕ} {next : Option ℕ} {k : ℕ} → k ≡ row_count s → next ≡ before (newest s u q k) → newest s u q k ≢ 0 → q < 256 → length list ≡ 256 → Walking rules kinds rights s u q list 0 next
  walk-begins {next = None} {k = k} all e z r size = absurd (z (before_none (newest s u q k) e))
  walk-begins {list = list} {next = Some i} {k = k} all e z r size =
      let at : newest s u q k ≡ suc i = before_some (newest s u q k) i e in
      record {
        size = size;
        room = omega (arith, newest-within s u q k);
        of_user = λ j p. subst (λ (n : ℕ). T (is_row u (row_at s n).role (row_at s n))) (some_is p) (found_user s u q k i at);
        walked = subst⁻¹ (λ (role : ℕ). written (policy_of (lent rules kinds rights)) (decode s).rows u 257 q ≡ take 0 list ++ onward (lent rules kinds rights) s u 257 role) (found_role s u q k i at) (walk_starts (lent rules kinds rights) s h u q list r);
      }

  -- ── one row more ──

  module _ {list : List ℕ} {n k : ℕ} {at : Option ℕ} (is : at ≡ Some k) (walking : Walking rules kinds rights s u q list n at) where
    w : Walking rules kinds rights s u q list n (Some k)
    w = subst (Walking rules kinds rights s u q list n) is walking

    abbrev role : ℕ
    role = (row_at s k).role

    inside : k < row_count s
    inside = omega (arith, w.room)

    own : newest s u role (suc k) ≡ suc k
    own = own_newest s u k (w.of_user k refl)

    -- the row that the walk stands at is row k
    at_row : row_at s (newest s u role (suc k) - 1) ≡ row_at s k
    at_row = let e : newest s u role (suc k) - 1 ≡ k = omega (arith, own) in ap (row_at s) e

    abbrev lower_roles : List ℕ
    lower_roles = rests_on (policy_of (lent rules kinds rights)) (row_at s k)

    same_roles : rests_on (policy_of (without_rights rules kinds)) (row_at s k) ≡ lower_roles
    same_roles = rests_same (lent rules kinds rights) (row_at s k)

    is_role : role < 256
    is_role = is_role_lem (lent rules kinds rights) s h u role (suc k) (λ z. omega (arith, own)) (omega (arith, inside))

    below : (lower : ℕ) → Memᴰ lower lower_roles → newest s u lower k ≢ 0
    below lower m z =
        rests_before (lent rules kinds rights) s h u role (suc k) lower (λ z. omega (arith, own)) (omega (arith, inside)) (subst⁻¹ (λ (r : Row). Memᴰ lower (rests_on (policy_of (lent rules kinds rights)) r)) at_row m)
        (let e : newest s u role (suc k) - 1 ≡ k = omega (arith, own) in ap (newest s u lower) e ∙ z)

    -- the list has one role more, and the rest is that from the role that the row rests on first
    pub stands : k < 256
    stands = omega (arith, w.room, (sound-sized (lent rules kinds rights) s h).rows)

    pub few : n < 256
    few = omega (arith, w.room, (sound-sized (lent rules kinds rights) s h).rows)

    goes_on : (lower : ℕ) → lower ≡ get_or lower_roles 0 256 → written (policy_of (lent rules kinds rights)) (decode s).rows u 257 q ≡ take (n + 1) (set list n role) ++ onward (lent rules kinds rights) s u (257 - (n + 1)) lower
    goes_on lower e =
        walk_goes_on (lent rules kinds rights) s h u (written (policy_of (lent rules kinds rights)) (decode s).rows u 257 q) list n (suc k) role lower few w.size is_role (λ z. omega (arith, own)) (omega (arith, inside))
        (e ∙ ap (λ (r : Row). get_or (rests_on (policy_of (lent rules kinds rights)) r) 0 256) (sym at_row)) w.walked

    pub walk-steps : {next : Option ℕ} → next ≡ row_below (without_rights rules kinds) s u k → Walking rules kinds rights s u q (set list n role) (n + 1) next
    walk-steps {next = next} e = go (slice_get (rests_on (policy_of (without_rights rules kinds)) (row_at s k)) 0) refl next e
      where
        go : (first : Option ℕ) → first ≡ slice_get (rests_on (policy_of (without_rights rules kinds)) (row_at s k)) 0 → (next : Option ℕ) → next ≡ place_for s u k first → Walking rules kinds rights s u q (set list n role) (n + 1) next
        go None f None e =
            let none : lower_roles ≡ [] = sym same_roles ∙ no-first (rests_on (policy_of (without_rights rules kinds)) (row_at s k)) f in
            record { size = length-set list n role ∙ w.size; room = omega (arith, w.room); of_user = λ j p. absurd (cc); walked = goes_on 256 (sym (ap (λ (l : List ℕ). get_or l 0 256) none)) }
        go None f (Some j) e = absurd (cc)
        go (Some lower) f next e = lands next e
          where
            first : get_or lower_roles 0 256 ≡ lower
            first = ap (λ (l : List ℕ). get_or l 0 256) (sym same_roles) ∙ some-first (rests_on (policy_of (without_rights rules kinds)) (row_at s k)) lower 256 f

            asked : Memᴰ lower lower_roles
            asked = subst (Memᴰ lower) same_roles (first_in (rests_on (policy_of (without_rights rules kinds)) (row_at s k)) lower f)

            lands : (next : Option ℕ) → next ≡ before (newest s u lower k) → Walking rules kinds rights s u q (set list n role) (n + 1) next
            lands None e = absurd (below lower asked (before_none (newest s u lower k) e))
            lands (Some j) e =
                let at : newest s u lower k ≡ suc j = before_some (newest s u lower k) j e in
                record {
                  size = length-set list n role ∙ w.size;
                  room = omega (arith, w.room, newest-within s u lower k);
                  of_user = λ i p. subst (λ (m : ℕ). T (is_row u (row_at s m).role (row_at s m))) (some_is p) (found_user s u lower k j at);
                  walked = subst⁻¹ (λ (r : ℕ). written (policy_of (lent rules kinds rights)) (decode s).rows u 257 q ≡ take (n + 1) (set list n role) ++ onward (lent rules kinds rights) s u (257 - (n + 1)) r) (found_role s u lower k j at) (goes_on lower (sym first));
                }
            -- ── at the end ──

  pub walk-over : {list : List ℕ} {n : ℕ} {next : Option ℕ} → next ≡ None → Walking rules kinds rights s u q list n next → written (policy_of (lent rules kinds rights)) (decode s).rows u 257 q ≡ take n list
  walk-over {list = list} {n = n} is w = walk_ends (lent rules kinds rights) s h u (written (policy_of (lent rules kinds rights)) (decode s).rows u 257 q) list n 256 (omega arith) (subst (Walking rules kinds rights s u q list n) is w).walked

  pub walk-short : {list : List ℕ} {n : ℕ} {next : Option ℕ} → Walking rules kinds rights s u q list n next → n ≤ 256
  walk-short w = omega (arith, w.room, (sound-sized (lent rules kinds rights) s h).rows)

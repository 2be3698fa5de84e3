-- Chain: each answer that the code gives, and what it leaves in the list, is the model's.
use Prim.Native.Nat.{ℕ, ◌≤◌, ◌<◌}
use mathlib.Core.Path.{◌≡◌, refl, sym, ap, ◌∙◌}
use mathlib.Core.Bool.{true, false, not, true≢false}
use mathlib.Core.Logic.{◌≢◌}
use mathlib.Core.List.{List, [], ◌∷◌}
use native.Mathlib.Omega.{arith}
use lib.Dec.{T, eqb, lt→ltb}
use lib.ListN.{length, get_or, take, length-take}
use borrow.Author.Tests.{eq-eqb, ne_eqb, le-ltb}
use Rattle.model.specs.Lists.{every, filled_to}
use Rattle.model.specs.Limits.{list_size}
use Rattle.model.specs.Layout.{policy_of, decode, row_count}
use Rattle.model.specs.Conditions.{active}
use Rattle.model.specs.Chain.{written, some_twice}
use Rattle.model.specs.Outcome.{judged_first, given}
use Rattle.model.specs.Calls.{chain, is_user, is_role, chain_on, course_of}
use Rattle.model.specs.Words.{Sound, none, here, later}
use Rattle.std.proofs.Common.{Ok, Err}
use Rattle.model.specs.declared.Reason.TheVariants.{OutOfRange, NotActive}
use Rattle.model.proofs.Tests.{of_true, of_false}
use Rattle.model.proofs.Numbers.{encode-decode, sound_formed}
use Rattle.table.specs.Entries.{first_rows}
use Rattle.table.specs.Writes.{Zeroed}
use Rattle.inner.specs.Promise.{lent, AnswersWith}
use Rattle.inner.proofs.Codes.{own_refuses, own_accepts, out_of_range_lem, in_range, found, active_now}
use Rattle.rests.specs.Newest.{newest}
use Rattle.rests.proofs.Newest.{newest-active}
use Rattle.query.proofs.Chaining.{never_twice, filled}

-- active in the first k rows: there is a newest row
pub active-newest : (s : List ℕ) (u q k : ℕ) → active (first_rows s k) u q ≡ true → newest s u q k ≢ 0
active-newest s u q k a z = true≢false (sym a ∙ newest-active s u q k z)

module _ (rules kinds rights s list : List ℕ) (h : Sound (lent rules kinds rights) s) (u q : ℕ) where
  chain_is : course_of (lent rules kinds rights) s list (chain u q) ≡ judged_first (lent rules kinds rights) s (chain_on (given (lent rules kinds rights) s list) u q)
  unfolding course_of
  chain_is = refl

  out : (i : ℕ) → get_or (is_user u ∷ is_role q ∷ eqb (length list) list_size ∷ []) i true ≡ false → AnswersWith (lent rules kinds rights) s list (chain u q) (Err OutOfRange) s list
  unfolding chain_on
  out i e = own_refuses (lent rules kinds rights) s list h (chain u q) _ chain_is OutOfRange (here (out_of_range_lem (is_user u ∷ is_role q ∷ eqb (length list) list_size ∷ []) i e))

  pub chain-no-user : 4096 ≤ u → AnswersWith (lent rules kinds rights) s list (chain u q) (Err OutOfRange) s list
  chain-no-user l = out 0 (le-ltb u 4096 l)

  pub chain-no-role : 256 ≤ q → AnswersWith (lent rules kinds rights) s list (chain u q) (Err OutOfRange) s list
  chain-no-role l = out 1 (le-ltb q 256 l)

  pub chain-no-list : length list ≢ 256 → AnswersWith (lent rules kinds rights) s list (chain u q) (Err OutOfRange) s list
  chain-no-list n = out 2 (ne_eqb (length list) 256 n)

  module _ (in₁ : u < 4096) (in₂ : q < 256) (in₃ : length list ≡ 256) (k : ℕ) (all : k ≡ row_count s) where
    ranges : T (not (not (every (is_user u ∷ is_role q ∷ eqb (length list) list_size ∷ []))))
    ranges = in_range (is_user u ∷ is_role q ∷ eqb (length list) list_size ∷ []) (lt→ltb u 4096 in₁, (lt→ltb q 256 in₂, (of_true (eqb (length list) 256) (eq-eqb (length list) 256 in₃), tt)))

    pub chain_inactive : active (first_rows s k) u q ≡ false → AnswersWith (lent rules kinds rights) s list (chain u q) (Err NotActive) s list
    unfolding chain_on
    chain_inactive e = own_refuses (lent rules kinds rights) s list h (chain u q) _ chain_is NotActive (later ranges (here (of_false (active (decode s).rows u q) (sym (active_now s k u q all) ∙ e))))

    -- the walk stands in the list and the rest is cleared
    pub chain-written : (before after : List ℕ) (n : ℕ) → active (first_rows s k) u q ≡ true → n ≤ 256 → length before ≡ 256
        → written (policy_of (lent rules kinds rights)) (decode s).rows u 257 q ≡ take n before → Zeroed before after n 256 → AnswersWith (lent rules kinds rights) s list (chain u q) (Ok n) s after
    unfolding chain_on
    chain-written before after n a l size w f =
        own_accepts (lent rules kinds rights) s list h (chain u q) _ chain_is n s after
        (later ranges (later (found (active (decode s).rows u q) (sym (active_now s k u q all) ∙ a)) (later (of_false (some_twice (written (policy_of (lent rules kinds rights)) (decode s).rows u 257 q)) (never_twice (lent rules kinds rights) s h u 257 q k (active-newest s u q k a) (omega arith))) none)))
        (sym (ap length w ∙ length-take n before ∙ omega arith)) (sym (encode-decode s (sound_formed (policy_of (lent rules kinds rights)) s h.state))) (filled before after n l size f ∙ ap (filled_to 256) (sym w))

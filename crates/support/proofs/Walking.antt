-- Along the queue of one user's rows: a row of another user changes nothing of what the marks say. And user after user, until all rows are
-- judged.
use Prim.Native.Nat.{ℕ, zero, suc, ◌+◌, ◌-◌, ◌≤◌, ◌<◌}
use mathlib.Core.Path.{◌≡◌, refl, sym, ap, ◌∙◌, subst, subst⁻¹}
use mathlib.Core.Bool.{Bool, true, false, cond, true≢false}
use mathlib.Core.Logic.{◌≢◌, ◌⊎◌, inl, inr}
use mathlib.Core.List.{List, [], ◌∷◌, ◌++◌}
use native.Mathlib.Omega.{arith}
use lib.ListN.{set, replicate, length-set, length-replicate}
use lib.Seq.{get_or-set_same, get_or-set_other}
use Rattle.model.specs.Limits.{most_rows}
use Rattle.model.specs.Values.{World}
use Rattle.model.specs.Layout.{decode, row_count, rows_at}
use Rattle.model.specs.Conditions.{supported}
use Rattle.model.specs.Left.{left}
use Rattle.model.specs.declared.Row.{Row}
use Rattle.model.specs.declared.Certificate.{Certificate}
use Rattle.model.proofs.Tests.{lt_or_ge, eq_or_ne, repeated}
use Rattle.table.specs.Entries.{row_at, first_rows}
use Rattle.table.proofs.Entries.{row_places}
use Rattle.queues.specs.Queued.{user_at, queue, Link, Queued, entry_behind}
use Rattle.queues.specs.declared.Queues.{Queues}
use Rattle.queues.proofs.Linking.{reach, passed_user, link_behind}
use Rattle.marks.specs.Owned.{InRange, Own}
use Rattle.marks.proofs.Owning.{row_other}
use Rattle.std.specs.Prelude.{Option, Some, None, IsSome, is_some}
use Rattle.support.specs.Verdicts.{kept, verdict_at, said_of, Correct, UserJudged, Judged}
use Rattle.support.specs.declared.Verdict.{Verdict}
use Rattle.support.proofs.Entering.{kept_more}

-- ── rows of other users ──

module _ (w : World) (s : List ℕ) (u : ℕ) (own : List Bool) (certificates : List Certificate) where
  rows_past : (k : ℕ) → (row_at s k).user ≢ u → Own u own (kept w s k) certificates → Own u own (kept w s (k + 1)) certificates
  rows_past k other x = subst⁻¹ (λ (l : List Row). Own u own l certificates) (kept_more w s k) (go (supported w (kept w s k) (row_at s k)))
    where
      go : (b : Bool) → Own u own (cond b (kept w s k ++ (row_at s k ∷ [])) (kept w s k)) certificates
      go true = row_other u own (kept w s k) certificates x (row_at s k) other
      go false = x

  rows_skip : (d a b : ℕ) → a + d ≡ b → ((h : ℕ) → a ≤ h → h < b → (row_at s h).user ≢ u) → Own u own (kept w s a) certificates → Own u own (kept w s b) certificates
  rows_skip zero a b e others x = let p : a ≡ b = omega arith in subst (λ (n : ℕ). Own u own (kept w s n) certificates) p x
  rows_skip (suc d) a b e others x = rows_skip d (a + 1) b (omega arith) (λ h l m. others h (omega arith) m) (rows_past a (others a (omega arith) (omega arith)) x)

-- before the user's first row the kinds are all that is marked
pub own_first : (w : World) (s : List ℕ) {own : List Bool} {certificates : List Certificate} (i : ℕ) {r : Row} → r ≡ row_at s i → ((h : ℕ) → h < i → (row_at s h).user ≢ (row_at s i).user)
    → Own r.user own [] certificates → Own (row_at s i).user own (kept w s i) certificates
unfolding left first_rows
own_first w s {own} {certificates} i e others x =
    rows_skip w s (row_at s i).user own certificates i 0 i (omega arith) (λ h l m. others h m) (subst (λ (r : Row). Own r.user own [] certificates) e x)

-- ── one verdict more ──

module _ (w : World) (s : List ℕ) (verdicts : List (Option Verdict)) (k : ℕ) (v : Verdict) (correct : Correct w s verdicts) (within : k < most_rows) (said : v ≡ verdict_at w s k) where
  here : said_of (set verdicts k (Some v)) k ≡ Some (verdict_at w s k)
  here = get_or-set_same verdicts k (Some v) None (omega (arith, correct.size)) ∙ ap (λ (d : Verdict). Some d) said

  elsewhere : (h : ℕ) → h ≢ k → said_of (set verdicts k (Some v)) h ≡ said_of verdicts h
  elsewhere h e = get_or-set_other verdicts k h (Some v) None e

  correct_more : Correct w s (set verdicts k (Some v))
  correct_more = record { size = length-set verdicts k (Some v) ∙ correct.size; said = λ h l m. go h l m (eq_or_ne h k) }
    where
      go : (h : ℕ) → h < row_count s → IsSome (said_of (set verdicts k (Some v)) h) → (h ≡ k) ⊎ (h ≢ k) → said_of (set verdicts k (Some v)) h ≡ Some (verdict_at w s h)
      go h l m (inl e) = subst⁻¹ (λ (n : ℕ). said_of (set verdicts k (Some v)) n ≡ Some (verdict_at w s n)) e here
      go h l m (inr e) = elsewhere h e ∙ correct.said h l (ap is_some (sym (elsewhere h e)) ∙ m)

  said_here : (h : ℕ) → h ≡ k → IsSome (said_of (set verdicts k (Some v)) h)
  said_here h e = ap (λ (n : ℕ). is_some (said_of (set verdicts k (Some v)) n)) e ∙ ap is_some here

  said-still : (h : ℕ) → IsSome (said_of verdicts h) → IsSome (said_of (set verdicts k (Some v)) h)
  said-still h m = go (eq_or_ne h k)
    where
      go : (h ≡ k) ⊎ (h ≢ k) → IsSome (said_of (set verdicts k (Some v)) h)
      go (inl e) = said_here h e
      go (inr e) = ap is_some (elsewhere h e) ∙ m

-- ── along the queue of one user's rows ──

user-at : (s : List ℕ) (h : ℕ) → h < most_rows → user_at s rows_at h ≡ (row_at s h).user
user-at s h l = sym (ap (λ (r : Row). r.user) (row_places s h l))

-- the rows before `upto` are judged as far as they are the user's, and `next` is the next that may be, if there is one
pub record Walked (w : World) (s : List ℕ) (u i : ℕ) (before : List (Option Verdict)) (own : List Bool) (verdicts : List (Option Verdict)) (next : Option ℕ) : Type 0 where
  pub upto : ℕ
  pub link : Link s rows_at (row_count s) (queue u) upto next
  pub marks : Own u own (kept w s upto) (decode s).certificates
  pub correct : Correct w s verdicts
  pub still : (h : ℕ) → IsSome (said_of before h) → IsSome (said_of verdicts h)
  pub all_rows : (h : ℕ) → i ≤ h → h < upto → (row_at s h).user ≡ u → IsSome (said_of verdicts h)
  pub others : (h : ℕ) → (row_at s h).user ≢ u → said_of verdicts h ≡ said_of before h

pub walk_starts : {w : World} {s : List ℕ} {i : ℕ} {own : List Bool} {verdicts : List (Option Verdict)} {r : Row} → InRange s → i < row_count s → r ≡ row_at s i
    → Own (row_at s i).user own (kept w s i) (decode s).certificates → Correct w s verdicts → Walked w s r.user i verdicts own verdicts (Some i)
walk_starts {w} {s} {i} {own} range l e marks correct =
    record {
      upto = i;
      link = record {
        ahead = omega arith;
        within = l;
        there = ap queue (user-at s i (omega (arith, range.sized.rows)) ∙ ap (λ (d : Row). d.user) (sym e));
        first = λ h m n b. m;
      };
      marks = subst⁻¹ (λ (d : Row). Own d.user own (kept w s i) (decode s).certificates) e marks;
      correct = correct;
      still = λ h m. m;
      all_rows = λ h m n p. absurd (omega arith);
      others = λ h n. refl;
    }

module _ {w : World} {s : List ℕ} {u i : ℕ} {before : List (Option Verdict)} {own : List Bool} {verdicts : List (Option Verdict)} (range : InRange s) where
  passed : {next : Option ℕ} (x : Walked w s u i before own verdicts next) (h : ℕ) → x.upto ≤ h → h < reach (row_count s) next → h < row_count s → (row_at s h).user ≢ u
  passed {next} x h l m n e = passed_user s rows_at (row_count s) (queue u) x.upto next x.link u refl h l m n (user-at s h (omega (arith, range.sized.rows)) ∙ e)

  judged : {next : Option ℕ} (x : Walked w s u i before own verdicts next) (h : ℕ) → i ≤ h → h < reach (row_count s) next → h < row_count s → (row_at s h).user ≡ u → IsSome (said_of verdicts h)
  judged x h l m n e = go (lt_or_ge h x.upto)
    where
      go : (h < x.upto) ⊎ (x.upto ≤ h) → IsSome (said_of verdicts h)
      go (inl a) = x.all_rows h l a e
      go (inr a) = absurd (passed x h a m n e)

  pub walk_ends : {next : Option ℕ} → Walked w s u i before own verdicts next → next ≡ None → u ≡ (row_at s i).user → UserJudged w s i before verdicts
  walk_ends {next} x end e =
      record {
        correct = x.correct;
        still = x.still;
        all_rows = λ h l m p. judged x h l (subst⁻¹ (λ (o : Option ℕ). h < reach (row_count s) o) end m) m (p ∙ sym e);
        others = λ h n. x.others h (λ p. n (p ∙ e));
      }

  module _ {k : ℕ} {now : Option ℕ} (here : now ≡ Some k) (y : Walked w s u i before own verdicts now) where
    x : Walked w s u i before own verdicts (Some k)
    x = subst (Walked w s u i before own verdicts) here y

    pub walk_within : k < row_count s
    walk_within = x.link.within

    reached : Own u own (kept w s k) (decode s).certificates
    reached = rows_skip w s u own (decode s).certificates (k - x.upto) x.upto k (omega (arith, x.link.ahead)) (λ h l m. passed x h l m (omega (arith, x.link.within))) x.marks

    module _ {r : Row} (e : r ≡ row_at s k) where
      user-same : (row_at s k).user ≡ r.user
      user-same = ap (λ (d : Row). d.user) (sym e)

      -- the marks have kept up with the queue
      pub marks_reach : r.user ≡ u → Own (row_at s k).user own (kept w s k) (decode s).certificates
      marks_reach mine = subst⁻¹ (λ (v : ℕ). Own v own (kept w s k) (decode s).certificates) (user-same ∙ mine) reached

      module _ {q : Queues} (queued : Queued s rows_at (row_count s) q) {next : Option ℕ} (d : next ≡ entry_behind q k) where
        -- past a row of another user in the same queue
        pub walk_past : r.user ≢ u → Walked w s u i before own verdicts next
        walk_past other =
            record {
              upto = k + 1;
              link = link_behind queued x.link d;
              marks = rows_past w s u own (decode s).certificates k (λ q. other (sym user-same ∙ q)) reached;
              correct = x.correct;
              still = x.still;
              all_rows = λ h l m q. go h l m q (eq_or_ne h k);
              others = x.others;
            }
          where
            go : (h : ℕ) → i ≤ h → h < k + 1 → (row_at s h).user ≡ u → (h ≡ k) ⊎ (h ≢ k) → IsSome (said_of verdicts h)
            go h l m q (inl p) = absurd (other (sym user-same ∙ subst (λ (n : ℕ). (row_at s n).user ≡ u) p q))
            go h l m q (inr p) = let a : h < k = omega (arith, p) in judged x h l a (omega (arith, x.link.within)) q

        -- over a row of the user's, which is judged
        pub walk_on : r.user ≡ u → {own' : List Bool} → Own (row_at s k).user own' (kept w s (k + 1)) (decode s).certificates → {v : Verdict} → v ≡ verdict_at w s k
            → Walked w s u i before own' (set verdicts k (Some v)) next
        walk_on mine {own'} marks {v} said =
            record {
              upto = k + 1;
              link = link_behind queued x.link d;
              marks = subst (λ (n : ℕ). Own n own' (kept w s (k + 1)) (decode s).certificates) (user-same ∙ mine) marks;
              correct = correct_more w s verdicts k v x.correct few said;
              still = λ h m. said-still w s verdicts k v x.correct few said h (x.still h m);
              all_rows = λ h l m q. go h l m q (eq_or_ne h k);
              others = λ h n. get_or-set_other verdicts k h (Some v) None (λ p. n (subst⁻¹ (λ (n : ℕ). (row_at s n).user ≡ u) p (user-same ∙ mine))) ∙ x.others h n;
            }
          where
            few : k < most_rows
            few = omega (arith, range.sized.rows, x.link.within)

            go : (h : ℕ) → i ≤ h → h < k + 1 → (row_at s h).user ≡ u → (h ≡ k) ⊎ (h ≢ k) → IsSome (said_of (set verdicts k (Some v)) h)
            go h l m q (inl p) = said_here w s verdicts k v x.correct few said h p
            go h l m q (inr p) = let a : h < k = omega (arith, p) in said-still w s verdicts k v x.correct few said h (judged x h l a (omega (arith, x.link.within)) q)

-- ── user after user ──

-- the rows before i are judged, and of a user's rows either all or none
pub record JudgedBefore (w : World) (s : List ℕ) (i : ℕ) (verdicts : List (Option Verdict)) : Type 0 where
  pub correct : Correct w s verdicts
  pub before : (h : ℕ) → h < i → IsSome (said_of verdicts h)
  pub alike : (h k : ℕ) → h < row_count s → k < row_count s → (row_at s h).user ≡ (row_at s k).user → IsSome (said_of verdicts h) → IsSome (said_of verdicts k)

pub judged_none : (w : World) (s : List ℕ) → JudgedBefore w s 0 (replicate most_rows None)
judged_none w s =
    record {
      correct = record { size = length-replicate {A = Option Verdict} most_rows None; said = λ k l m. absurd (none k m) };
      before = λ h l. absurd (omega arith);
      alike = λ h k l m p q. absurd (none h q);
    }
  where
    none : (k : ℕ) → IsSome (said_of (replicate most_rows None) k) → ⊥
    none k m = true≢false (sym m ∙ ap is_some (repeated None most_rows k))

module _ {w : World} {s : List ℕ} {verdicts : List (Option Verdict)} {i : ℕ} (x : JudgedBefore w s i verdicts) where
  pub judged_all : row_count s ≤ i → Judged w s verdicts
  judged_all end = record { size = x.correct.size; said = λ k l. x.correct.said k l (x.before k (omega arith)) }

  module _ (l : i < row_count s) where
    -- where row i is not judged, none of its user's is
    pub user-new : is_some (said_of verdicts i) ≡ false → (h : ℕ) → h < i → (row_at s h).user ≢ (row_at s i).user
    user-new e h m p = true≢false (sym (x.alike h i (omega arith) l p (x.before h m)) ∙ e)

    pub judged_already : IsSome (said_of verdicts i) → JudgedBefore w s (i + 1) verdicts
    judged_already some = record { correct = x.correct; before = λ h m. go h m (eq_or_ne h i); alike = x.alike }
      where
        go : (h : ℕ) → h < i + 1 → (h ≡ i) ⊎ (h ≢ i) → IsSome (said_of verdicts h)
        go h m (inl e) = subst⁻¹ (λ (n : ℕ). IsSome (said_of verdicts n)) e some
        go h m (inr e) = let a : h < i = omega (arith, e) in x.before h a

    pub judged_more : {after : List (Option Verdict)} → UserJudged w s i verdicts after → JudgedBefore w s (i + 1) after
    judged_more {after} y = record { correct = y.correct; before = λ h m. go h m (eq_or_ne h i); alike = λ h k m n e. same h k n e (eq_or_ne (row_at s h).user (row_at s i).user) m }
      where
        go : (h : ℕ) → h < i + 1 → (h ≡ i) ⊎ (h ≢ i) → IsSome (said_of after h)
        go h m (inl e) = subst⁻¹ (λ (n : ℕ). IsSome (said_of after n)) e (y.all_rows i (omega arith) l refl)
        go h m (inr e) = let a : h < i = omega (arith, e) in y.still h (x.before h a)

        own : (k : ℕ) → k < row_count s → (row_at s k).user ≡ (row_at s i).user → (k < i) ⊎ (i ≤ k) → IsSome (said_of after k)
        own k n e (inl a) = y.still k (x.before k a)
        own k n e (inr a) = y.all_rows k a n e

        same : (h k : ℕ) → k < row_count s → (row_at s h).user ≡ (row_at s k).user → ((row_at s h).user ≡ (row_at s i).user) ⊎ ((row_at s h).user ≢ (row_at s i).user) → h < row_count s → IsSome (said_of after h) → IsSome (said_of after k)
        same h k n e (inl p) m q = own k n (sym e ∙ p) (lt_or_ge k i)
        same h k n e (inr p) m q = y.still k (x.alike h k m n e (sym (ap is_some (y.others h p)) ∙ q))

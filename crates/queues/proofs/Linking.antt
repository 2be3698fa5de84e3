-- Queues from the last entry to the first: none is queued yet, one entry more; and what a walk along a queue passes over.
use Prim.Native.Nat.{ℕ, ◌+◌, ◌≤◌, ◌<◌}
use mathlib.Core.Path.{◌≡◌, refl, sym, ap, ◌∙◌, subst, subst⁻¹}
use mathlib.Core.Bool.{Bool, true, false, cond}
use mathlib.Core.Logic.{◌≢◌, ◌⊎◌, inl, inr}
use mathlib.Core.List.{List}
use native.Mathlib.Omega.{arith}
use native.Mathlib.Nat.{eq-or-lt_of_le}
use lib.Dec.{eqb}
use lib.ListN.{get_or, set, replicate, length-set, length-replicate, get_or-replicate}
use lib.Seq.{get_or-set_same, get_or-set_other}
use borrow.Author.Tests.{eqb-true, eqb-false, lt-ltb}
use Rattle.std.specs.Prelude.{Option, Some, None}
use Rattle.std.proofs.Props.{props}
use Rattle.queues.specs.Queued.{most_entries, no_entry, entry, user_at, queues, queue, FirstAt, Link, Begins, GoesOn, Queued, first_entry, entry_behind}
use Rattle.queues.specs.declared.Queues.{Queues}

-- how far a walk has come among n entries: to an entry, or past them all
abbrev pub reach : ℕ → Option ℕ → ℕ
reach n None = n
reach n (Some k) = k

entry_is : (k : ℕ) → k < most_entries → entry k ≡ Some k
entry_is k h = ap (λ (b : Bool). cond b (Some k) None) (lt-ltb k no_entry h)

module _ (s : List ℕ) (place n : ℕ) where
  -- ── along a queue ──

  module _ (b a : ℕ) where
    passed : (k : Option ℕ) → Link s place n b a k → (h : ℕ) → a ≤ h → h < reach n k → h < n → queue (user_at s place h) ≢ b
    passed None l h after before inside e = l h after inside e
    passed (Some k) l h after before inside e = let b : h < k = before in omega (arith, l.first h after inside e)

    pub passed_user : (k : Option ℕ) → Link s place n b a k → (u : ℕ) → queue u ≡ b → (h : ℕ) → a ≤ h → h < reach n k → h < n → user_at s place h ≢ u
    passed_user k l u own h after before inside e = passed k l h after before inside (ap queue e ∙ own)

  -- ── from the last entry to the first ──

  -- entry i is the first of its own queue, and of no other
  module _ (i : ℕ) (inside : i < n) where
    link_own : (b : ℕ) → b ≡ queue (user_at s place i) → Link s place n b i (Some i)
    link_own b e = record { ahead = omega arith; within = inside; there = sym e; first = λ h after before d. after }

    module _ (b : ℕ) (other : b ≢ queue (user_at s place i)) where
      later : (h : ℕ) → i ≤ h → queue (user_at s place h) ≡ b → i + 1 ≤ h
      later h after e = go (eq-or-lt_of_le after)
        where
          go : (i ≡ h) ⊎ (i < h) → i + 1 ≤ h
          go (inl same) = absurd (other (sym e ∙ ap (λ (x : ℕ). queue (user_at s place x)) (sym same)))
          go (inr l) = omega arith

      link_other : (k : Option ℕ) → Link s place n b (i + 1) k → Link s place n b i k
      link_other None l = λ h after before e. l h (later h after e) before e
      link_other (Some k) l = record { ahead = omega (arith, l.ahead); within = l.within; there = l.there; first = λ h after before e. l.first h (later h after e) before e }

  -- entry i is put before those behind it
  module _ (i b : ℕ) (inside : i < n) (few : i < most_entries) (own : b ≡ queue (user_at s place i)) (small : b < queues) (heads : List ℕ) (x : Begins s place n (i + 1) heads) where
    begins_more : Begins s place n i (set heads b i)
    begins_more = record { size = length-set heads b i ∙ x.size; begins = λ c h. go c h (eqb c b) refl }
      where
        go : (c : ℕ) → c < queues → (t : Bool) → eqb c b ≡ t → Link s place n c i (entry (get_or (set heads b i) c 0))
        go c h true t =
            let e = eqb-true c b t in
            let read : get_or (set heads b i) c 0 ≡ i = ap (λ (y : ℕ). get_or (set heads b i) y 0) e ∙ get_or-set_same heads b i 0 (omega (arith, x.size)) in
            subst⁻¹ (Link s place n c i) (ap entry read ∙ entry_is i few) (link_own i inside c (e ∙ own))
        go c h false t =
            let e = eqb-false c b t in
            subst⁻¹ (λ (k : ℕ). Link s place n c i (entry k)) (get_or-set_other heads b c i 0 e) (link_other i inside c (λ d. e (d ∙ sym own)) (entry (get_or heads c 0)) (x.begins c h))

    goes_on_more : (next : List ℕ) → GoesOn s place n (i + 1) next → GoesOn s place n i (set next i (get_or heads b 0))
    goes_on_more next y = record { size = length-set next i (get_or heads b 0) ∙ y.size; goes_on = λ k after before. go k before (eq-or-lt_of_le after) }
      where
        behind : ℕ → ℕ → Type 0
        behind k v = Link s place n (queue (user_at s place k)) (k + 1) (entry v)

        here : behind i (get_or (set next i (get_or heads b 0)) i 0)
        here =
            subst⁻¹ (behind i) (get_or-set_same next i (get_or heads b 0) 0 (omega (arith, y.size)))
            (subst (λ (c : ℕ). Link s place n c (i + 1) (entry (get_or heads b 0))) own (x.begins b small))

        go : (k : ℕ) → k < n → (i ≡ k) ⊎ (i < k) → behind k (get_or (set next i (get_or heads b 0)) k 0)
        go k before (inl same) = subst (λ (j : ℕ). behind j (get_or (set next i (get_or heads b 0)) j 0)) same here
        go k before (inr l) = subst⁻¹ (behind k) (get_or-set_other next i k (get_or heads b 0) 0 (λ e. omega (arith, e))) (y.goes_on k (omega arith) before)

-- the entries from i on are queued
pub record Queueing (s : List ℕ) (place n i : ℕ) (heads next : List ℕ) : Type 0 where
  pub begun : Begins s place n i heads
  pub behind : GoesOn s place n i next

module _ (s : List ℕ) (place n : ℕ) where
  pub queueing_none : Queueing s place n n (replicate queues no_entry) (replicate most_entries no_entry)
  queueing_none =
      record {
        begun = record { size = length-replicate {A = ℕ} queues no_entry; begins = λ b h. subst⁻¹ (λ (k : ℕ). Link s place n b n (entry k)) (get_or-replicate queues b no_entry 0 h) (λ k after inside e. absurd (omega arith)) };
        behind = record { size = length-replicate {A = ℕ} most_entries no_entry; goes_on = λ k after before. absurd (omega arith) };
      }

  pub queueing_more : {j : ℕ} (i b : ℕ) {heads next : List ℕ} → j ≡ i + 1 → n ≤ most_entries → i < n → b ≡ queue (user_at s place i) → b < queues → Queueing s place n j heads next → Queueing s place n i (set heads b i) (set next i (get_or heads b 0))
  queueing_more {j} i b {heads} {next} step few inside own small x =
      let begun = subst (λ (k : ℕ). Begins s place n k heads) step x.begun in
      record {
        begun = begins_more s place n i b inside (omega arith) own small heads begun;
        behind = goes_on_more s place n i b inside (omega arith) own small heads begun next (subst (λ (k : ℕ). GoesOn s place n k next) step x.behind);
      }

  pub queueing_all : {i : ℕ} {heads next : List ℕ} → i ≡ 0 → Queueing s place n i heads next → Queued s place n (record { heads = heads; next = next })
  queueing_all {i} {heads} {next} e x =
      record { begun = subst (λ (k : ℕ). Begins s place n k heads) e x.begun; behind = subst (λ (k : ℕ). GoesOn s place n k next) e x.behind }

-- ── what a walk asks ──

-- there is one answer only
pub Link-prop : (s : List ℕ) (place n b i : ℕ) (k : Option ℕ) → IsProp (Link s place n b i k)
Link-prop s place n b i None = hlevel props
Link-prop s place n b i (Some k) = hlevel props

module _ {s : List ℕ} {place n : ℕ} {q : Queues} (queued : Queued s place n q) where
  pub link_first : (u : ℕ) {k : Option ℕ} → k ≡ first_entry q u → Link s place n (queue u) 0 k
  link_first u e = subst⁻¹ (Link s place n (queue u) 0) e (queued.begun.begins (queue u) (omega arith))

  pub link_behind : {b a k : ℕ} {next : Option ℕ} → FirstAt s place n b a k → next ≡ entry_behind q k → Link s place n b (k + 1) next
  link_behind {b} {a} {k} l e =
      subst⁻¹ (Link s place n b (k + 1)) e (subst (λ (c : ℕ). Link s place n c (k + 1) (entry_behind q k)) l.there (queued.behind.goes_on k (omega arith) l.within))

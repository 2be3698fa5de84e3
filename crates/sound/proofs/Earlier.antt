-- Tables judged entry by entry, each over those before it.
use Prim.Native.Nat.{ℕ, zero, suc, ◌+◌, ◌≤◌, ◌<◌}
use mathlib.Core.Path.{◌≡◌, sym, ap, ◌∙◌}
use mathlib.Core.Bool.{Bool, true, false, ◌&&◌, and-false}
use mathlib.Core.Logic.{◌⊎◌, inl, inr}
use mathlib.Core.List.{List, [], ◌∷◌}
use native.Mathlib.Omega.{arith}
use native.Mathlib.Numerals.{add-one}
use Rattle.model.specs.Lists.{all_over_earlier}
use Rattle.model.proofs.Tests.{earlier_append, lt_or_ge}
use Rattle.table.specs.Entries.{entry, entries}
use Rattle.table.proofs.Entries.{entries_more}

-- ── a loop that judges each entry over those before it ──

module _ {A : Type 0} (from : List ℕ → A) (width : ℕ) (test : List A → A → Bool) (table : List ℕ) where
  one_more : (j : ℕ) → all_over_earlier test [] (entries from width table (j + 1)) ≡ (all_over_earlier test [] (entries from width table j) && (test (entries from width table j) (entry from width table j) && true))
  one_more j = ap (all_over_earlier test []) (entries_more from width table j) ∙ earlier_append test [] (entries from width table j) (entry from width table j ∷ [])

  pub earlier_next : (j : ℕ) → all_over_earlier test [] (entries from width table j) ≡ true → test (entries from width table j) (entry from width table j) ≡ true → all_over_earlier test [] (entries from width table (j + 1)) ≡ true
  earlier_next j a e = one_more j ∙ (λ i. a i && (e i && true))

  pub earlier_miss : (n j : ℕ) → j < n → test (entries from width table j) (entry from width table j) ≡ false → all_over_earlier test [] (entries from width table n) ≡ false
  earlier_miss zero j h e = absurd (omega arith)
  earlier_miss (suc n) j h e = ap (λ (k : ℕ). all_over_earlier test [] (entries from width table k)) (sym (add-one n)) ∙ one_more n ∙ go (λ l. earlier_miss n j l e) (lt_or_ge j n)
    where
      go : (j < n → all_over_earlier test [] (entries from width table n) ≡ false) → (j < n) ⊎ (n ≤ j) → (all_over_earlier test [] (entries from width table n) && (test (entries from width table n) (entry from width table n) && true)) ≡ false
      go before (inl l) = ap (λ (b : Bool). b && (test (entries from width table n) (entry from width table n) && true)) (before l)
      go before (inr l) =
          let q : n ≡ j = omega arith in
          ap (λ (k : ℕ). all_over_earlier test [] (entries from width table n) && (test (entries from width table k) (entry from width table k) && true)) q
          ∙ ap (λ (b : Bool). all_over_earlier test [] (entries from width table n) && (b && true)) e
          ∙ and-false (all_over_earlier test [] (entries from width table n))

-- Which numbers a condition may be.
use Prim.Native.Nat.{ℕ, ◌+◌, ◌-◌, ◌/◌, ◌≤◌, ◌<◌}
use mathlib.Core.Path.{◌≡◌, sym, ap, ◌∙◌}
use mathlib.Core.Bool.{true}
use mathlib.Core.Logic.{◌⊎◌, inl, inr}
use mathlib.Core.List.{List}
use native.Mathlib.Omega.{arith}
use lib.Dec.{eqb, ltb}
use borrow.Author.Tests.{eq-eqb, ne_eqb, lt-ltb, le-ltb}
use lib.ListN.{length}
use Rattle.model.specs.Layout.{kind_from, policy_of}
use Rattle.model.specs.Conditions.{meant}
use Rattle.model.specs.Sound.{condition_fits}
use Rattle.model.proofs.Tests.{lt_or_ge}
use Rattle.model.proofs.Meaning.{meant-role, meant-kind, meant-fact, meant-nothing}
use Rattle.table.proofs.Entries.{length-entries}
use Rattle.table.specs.Entries.{kinds_only}

module _ (kinds : List ℕ) (few : length kinds / 7 ≤ 128) (c end : ℕ) (ends : end ≡ 256 + length kinds / 7) where
  has-row : ltb (c - 256) (length (kinds_only kinds).kinds) ≡ ltb (c - 256) (length kinds / 7)
  unfolding policy_of
  has-row = ap (ltb (c - 256)) (length-entries kind_from 7 kinds (length kinds / 7))

  pub fits_low : c < end → true ≡ condition_fits (kinds_only kinds) (meant c)
  unfolding condition_fits
  fits_low l = go (lt_or_ge c 256)
    where
      go : (c < 256) ⊎ (256 ≤ c) → true ≡ condition_fits (kinds_only kinds) (meant c)
      go (inl h) = sym (ap (condition_fits (kinds_only kinds)) (meant-role c h))
      go (inr h) = sym (ap (condition_fits (kinds_only kinds)) (meant-kind c h (omega arith)) ∙ has-row ∙ lt-ltb (c - 256) (length kinds / 7) (omega arith))

  pub fits_high : end ≤ c → eqb (c / 64) 6 ≡ condition_fits (kinds_only kinds) (meant c)
  unfolding condition_fits
  fits_high l = go (lt_or_ge c 384) (lt_or_ge c 448)
    where
      go : (c < 384) ⊎ (384 ≤ c) → (c < 448) ⊎ (448 ≤ c) → eqb (c / 64) 6 ≡ condition_fits (kinds_only kinds) (meant c)
      go (inl h) d = ne_eqb (c / 64) 6 (λ e. omega (arith, e)) ∙ sym (ap (condition_fits (kinds_only kinds)) (meant-kind c (omega arith) h) ∙ has-row ∙ le-ltb (c - 256) (length kinds / 7) (omega arith))
      go (inr h) (inl k) = eq-eqb (c / 64) 6 (omega arith) ∙ sym (ap (condition_fits (kinds_only kinds)) (meant-fact c h k))
      go (inr h) (inr k) = ne_eqb (c / 64) 6 (λ e. omega (arith, e)) ∙ sym (ap (condition_fits (kinds_only kinds)) (meant-nothing c k))

-- The digits of a number, without the steps that their definition counts down: one digit below ten, else those of the tenth part and
-- one more.
use Prim.Native.Nat.{ℕ, zero, suc, ◌+◌, ◌/◌, ◌%◌, ◌<◌, ◌≤◌}
use mathlib.Core.Path.{◌≡◌, refl, sym, ap, ◌∙◌}
use mathlib.Core.Logic.{◌⊎◌, inl, inr}
use mathlib.Core.List.{List, [], ◌∷◌, ◌++◌}
use native.Mathlib.Omega.{arith}
use borrow.Author.Tests.{lt-ltb, le-ltb}
use Rattle.model.proofs.Tests.{lt_or_ge}
use Rattle.program.specs.Text.{decimal_within, decimal}
use Rattle.writer.specs.Writing.{Wrote}
use Rattle.writer.proofs.Joined.{wrote_none, wrote_same, wrote_then}
use lib.ListN.{length, length-append}

alone : (steps n : ℕ) → n < 10 → decimal_within steps n ≡ (48 + n) ∷ []
alone zero n h = refl
alone (suc steps) n h = simp (lt-ltb n 10 h)

split : (steps n : ℕ) → 10 ≤ n → decimal_within (suc steps) n ≡ decimal_within steps (n / 10) ++ ((48 + n % 10) ∷ [])
split steps n h = simp (le-ltb n 10 h)

-- steps enough are as good as any
steps_enough : (s t n : ℕ) → n ≤ s → n ≤ t → decimal_within s n ≡ decimal_within t n
steps_enough zero t n h l = sym (alone t n (omega arith))
steps_enough (suc s) zero n h l = alone (suc s) n (omega arith)
steps_enough (suc s) (suc t) n h l = go (lt_or_ge n 10) (λ a b. steps_enough s t (n / 10) a b)
  where
    go : (n < 10) ⊎ (10 ≤ n) → (n / 10 ≤ s → n / 10 ≤ t → decimal_within s (n / 10) ≡ decimal_within t (n / 10)) → decimal_within (suc s) n ≡ decimal_within (suc t) n
    go (inl b) ih = alone (suc s) n b ∙ sym (alone (suc t) n b)
    go (inr b) ih = split s n b ∙ ap (λ (higher : List ℕ). higher ++ ((48 + n % 10) ∷ [])) (ih (omega arith) (omega arith)) ∙ sym (split t n b)

pub decimal_digit : (n : ℕ) → n < 10 → decimal n ≡ (48 + n) ∷ []
decimal_digit n h = alone n n h

pub decimal_digits : (n : ℕ) → 10 ≤ n → decimal n ≡ decimal (n / 10) ++ ((48 + n % 10) ∷ [])
decimal_digits zero h = absurd (omega arith)
decimal_digits (suc k) h = split k (suc k) h ∙ ap (λ (higher : List ℕ). higher ++ ((48 + suc k % 10) ∷ [])) (steps_enough k (suc k / 10) (suc k / 10) (omega arith) (omega arith))

-- one digit more than the tenth part has
pub decimal_longer : (n : ℕ) → 10 ≤ n → length (decimal n) ≡ length (decimal (n / 10)) + 1
decimal_longer n h = ap length (decimal_digits n h) ∙ length-append (decimal (n / 10)) ((48 + n % 10) ∷ [])

pub decimal_some : (n : ℕ) → 1 ≤ length (decimal n)
decimal_some n = go (lt_or_ge n 10)
  where
    go : (n < 10) ⊎ (10 ≤ n) → 1 ≤ length (decimal n)
    go (inl h) = omega (arith, ap length (decimal_digit n h))
    go (inr h) = omega (arith, decimal_longer n h)

-- what stands before the last digit of a number: the digits of the tenth part, or nothing where there is one digit
pub record Led (n : ℕ) (out out' : List ℕ) (at next : ℕ) : Type 0 where
  pub higher : List ℕ
  pub whole : decimal n ≡ higher ++ ((48 + n % 10) ∷ [])
  pub wrote : Wrote out out' at higher next

pub led_by_none : (n : ℕ) (out : List ℕ) (at : ℕ) → n < 10 → Led n out out at at
led_by_none n out at h =
    let alone : n % 10 ≡ n = omega arith in
    record { higher = []; whole = decimal_digit n h ∙ ap (λ (d : ℕ). (48 + d) ∷ []) (sym alone); wrote = wrote_none out at }

pub led_by_tenth : (n : ℕ) (out out' : List ℕ) (at next : ℕ) → 10 ≤ n → Wrote out out' at (decimal (n / 10)) next → Led n out out' at next
led_by_tenth n out out' at next h w = record { higher = decimal (n / 10); whole = decimal_digits n h; wrote = w }

module _ (n : ℕ) (out out' : List ℕ) (at next : ℕ) (led : Led n out out' at next) where
  pub digit_fits : at + length (decimal n) ≤ length out → next + 1 ≤ length out'
  digit_fits h = omega (arith, ap length led.whole, length-append led.higher ((48 + n % 10) ∷ []), led.wrote.place, led.wrote.size, h)

  pub led_to : (out'' : List ℕ) (last : ℕ) → Wrote out' out'' next ((48 + n % 10) ∷ []) last → Wrote out out'' at (decimal n) last
  led_to out'' last w = wrote_same out out'' at _ _ last (sym led.whole) (wrote_then out out' out'' at led.higher next ((48 + n % 10) ∷ []) last led.wrote w)

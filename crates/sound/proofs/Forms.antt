-- A state is well formed if its parts are: the clauses, in the order in which they are judged.
use Prim.Native.Nat.{ℕ, ◌+◌, ◌*◌, ◌-◌, ◌≤◌, ◌<◌}
use mathlib.Core.Path.{◌≡◌, refl, sym, ap, ◌∙◌}
use mathlib.Core.Bool.{Bool, true, false, ◌&&◌, and-true}
use mathlib.Core.List.{List}
use native.Mathlib.Omega.{arith}
use native.Mathlib.Nat.{mul-le-mul_right}
use lib.Dec.{eqb, leb}
use lib.ListN.{length, take, drop}
use borrow.Author.Tests.{le-leb, lt-leb}
use Rattle.model.specs.Lists.{all, is_zero, is_bit}
use Rattle.model.specs.Layout.{number, fact_numbers, row_numbers, certificate_numbers, row_count, certificate_count}
use Rattle.model.specs.Sound.{form_clauses, well_formed}
use Rattle.table.proofs.Zeros.{past}
use Rattle.sound.specs.Fitting.{counted, parts_formed}

-- ── a table with its count ──

module _ (s : List ℕ) (at most width count : ℕ) (e : count ≡ number s at) where
  pub zeros_past : at + 1 + most * width ≤ length s → count ≤ most → all is_zero (take (most * width - count * width) (drop (at + 1 + count * width) s)) ≡ counted s at most width
  unfolding counted
  zeros_past fits h =
      let all_rows : count * width ≤ most * width = mul-le-mul_right width h in
      let used : count * width ≡ number s at * width = ap (λ (n : ℕ). n * width) e in
      ap (all is_zero) (sym (past s (at + 1) (most * width) (count * width) all_rows fits))
      ∙ ap (λ (n : ℕ). all is_zero (drop n (take (most * width) (drop (at + 1) s)))) used
      ∙ ap (λ (b : Bool). b && all is_zero (drop (number s at * width) (take (most * width) (drop (at + 1) s)))) (sym (le-leb (number s at) most (omega (arith, e))))

  pub past_most : most < count → leb count most ≡ counted s at most width
  unfolding counted
  past_most h = lt-leb count most h ∙ sym (ap (λ (b : Bool). b && all is_zero (drop (number s at * width) (take (most * width) (drop (at + 1) s)))) (ap (λ (n : ℕ). leb n most) (sym e) ∙ lt-leb count most h))

-- ── the parts ──

sorted : (a b c d e f : Bool) → (a && (b && (c && (d && (e && (f && true)))))) ≡ (a && ((b && (c && e)) && (d && f)))
sorted false b c d e f = refl
sorted true false c d e f = refl
sorted true true false d e f = refl
sorted true true true false false f = refl
sorted true true true false true f = refl
sorted true true true true false f = refl
sorted true true true true true f = and-true f

pub form_parts : (s : List ℕ) → (eqb (length s) 1602 && parts_formed s) ≡ well_formed s
unfolding form_clauses counted
form_parts s = sym (sorted (eqb (length s) 1602) (all is_bit (fact_numbers s)) (leb (row_count s) 256) (leb (certificate_count s) 256) (all is_zero (drop (row_count s * 3) (row_numbers s))) (all is_zero (drop (certificate_count s * 3) (certificate_numbers s))))

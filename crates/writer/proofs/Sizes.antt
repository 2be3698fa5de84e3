-- How long what is written can be.
use Prim.Native.Nat.{ℕ, suc, ◌/◌, ◌<◌, ◌≤◌}
use mathlib.Core.Path.{ap}
use mathlib.Core.Logic.{◌⊎◌, inl, inr}
use native.Mathlib.Omega.{arith}
use lib.ListN.{length, length-append}
use Rattle.model.proofs.Tests.{lt_or_ge}
use Rattle.program.specs.Text.{decimal}
use Rattle.program.specs.Program.{answer_record, bad_record}
use Rattle.writer.proofs.Decimals.{decimal_digit, decimal_longer}

one_more : (most n : ℕ) → length (decimal (n / 10)) ≤ most → length (decimal n) ≤ suc most
one_more most n l = go (lt_or_ge n 10)
  where
    go : (n < 10) ⊎ (10 ≤ n) → length (decimal n) ≤ suc most
    go (inl h) = omega (arith, ap length (decimal_digit n h))
    go (inr h) = omega (arith, decimal_longer n h)

one : (n : ℕ) → n < 10 → length (decimal n) ≤ 1
one n h = omega (arith, ap length (decimal_digit n h))

two : (n : ℕ) → n < 100 → length (decimal n) ≤ 2
two n h = one_more 1 n (one (n / 10) (omega arith))

three : (n : ℕ) → n < 1000 → length (decimal n) ≤ 3
three n h = one_more 2 n (two (n / 10) (omega arith))

four : (n : ℕ) → n < 10000 → length (decimal n) ≤ 4
four n h = one_more 3 n (three (n / 10) (omega arith))

pub decimal_short : (n : ℕ) → n < 100000 → length (decimal n) ≤ 5
decimal_short n h = one_more 4 n (four (n / 10) (omega arith))

pub answer_short : (code second : ℕ) → code < 65536 → second < 65536 → length (answer_record code second) ≤ 13
answer_short code second h l =
    let c = decimal_short code (omega arith) in
    let s = decimal_short second (omega arith) in
    simp length-append (omega (arith, c, s))

pub bad_short : (n : ℕ) → n < 100000 → length (bad_record n) ≤ 11
bad_short n h = let d = decimal_short n h in simp length-append (omega (arith, d))

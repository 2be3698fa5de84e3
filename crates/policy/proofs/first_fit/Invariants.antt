-- The invariant: nothing is wrong so far and with the numbers ahead exactly if nothing is wrong with any.
use Rattle.std.proofs.Common.{◌≡◌, ℕ, ◌+◌, ◌-◌, Bool, ◌&&◌, take, drop}
use lib.Dec.{eqb}
use Rattle.model.specs.Lists.{all, is_zero}
use Rattle.policy.proofs.Places.{marks, fit}
use Rattle.policy.proofs.first_fit.Given as goal

abbrev pub invariant-loop-j : goal.invariant-loop-j
invariant-loop-j g l =
    (test : ℕ → Bool) → ((x : ℕ) (b : Bool) → g.F.Fn.post l.fits (x, tt) b → b ≡ test x)
    → (eqb l.joined 0 && fit test (drop l.j l.numbers) (drop (8 - l.n + l.j) marks)) ≡ (all test (take l.n l.numbers) && all is_zero (drop l.n l.numbers))

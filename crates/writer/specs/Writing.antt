-- What a write at a place leaves: the bytes stand there, those before them and those behind them are as they were.
use Rattle.std.specs.Prelude.{ℕ, ◌+◌, ◌≡◌, List, ◌++◌, length, take, drop}

-- the bytes stand from `at` on, and `next` is the place behind them
pub record Wrote (out out' : List ℕ) (at : ℕ) (bytes : List ℕ) (next : ℕ) : Type 0 where
  pub size : length out' ≡ length out
  pub place : next ≡ at + length bytes
  pub front : take next out' ≡ take at out ++ bytes
  pub behind : drop next out' ≡ drop next out

-- The laws of a field without its quotes, by its length, its first byte and its last.
use Prim.Native.Nat.{ℕ, ◌-◌, ◌<◌, ◌≤◌}
use mathlib.Core.Path.{◌≡◌, refl, sym, ap, ◌∙◌}
use mathlib.Core.Bool.{Bool, true, false, ◌&&◌, cond}
use mathlib.Core.List.{List}
use native.Mathlib.Omega.{arith}
use borrow.Author.Tests.{lt-leb, le-leb, eq-eqb, ne_eqb}
use lib.Dec.{eqb, leb}
use lib.ListN.{length, get_or, take, drop}
use Rattle.program.specs.Text.{is_quoted, unquoted}

module _ (f : List ℕ) where
  kept : is_quoted f ≡ false → f ≡ unquoted f
  unfolding unquoted
  kept q = ap (λ (b : Bool). cond b (take (length f - 2) (drop 1 f)) f) (sym q)

  pub kept_short : length f < 2 → f ≡ unquoted f
  unfolding is_quoted
  kept_short h = kept (simp (lt-leb 2 (length f) h))

  pub kept_open : (get_or f 0 0 ≡ 34 → ⊥) → f ≡ unquoted f
  unfolding is_quoted
  kept_open p = kept (go (leb 2 (length f)) (eqb (get_or f 0 0) 34) (ne_eqb (get_or f 0 0) 34 p))
    where
      go : (a b : Bool) → b ≡ false → (a && (b && eqb (get_or f (length f - 1) 0) 34)) ≡ false
      go true b e = rw e refl
      go false b e = refl

  pub kept_unclosed : (get_or f (length f - 1) 0 ≡ 34 → ⊥) → f ≡ unquoted f
  unfolding is_quoted
  kept_unclosed p = kept (go (leb 2 (length f)) (eqb (get_or f 0 0) 34) (eqb (get_or f (length f - 1) 0) 34) (ne_eqb (get_or f (length f - 1) 0) 34 p))
    where
      go : (a b c : Bool) → c ≡ false → (a && (b && c)) ≡ false
      go true true c e = e
      go true false c e = refl
      go false b c e = refl

  pub quotes_off : 2 ≤ length f → get_or f 0 0 ≡ 34 → get_or f (length f - 1) 0 ≡ 34 → take (length f - 1 - 1) (drop 1 f) ≡ unquoted f
  unfolding unquoted is_quoted
  quotes_off h p q =
      let yes-quoted : is_quoted f ≡ true = simp (le-leb 2 (length f) h, eq-eqb (get_or f 0 0) 34 p, eq-eqb (get_or f (length f - 1) 0) 34 q) in
      let n : length f - 1 - 1 ≡ length f - 2 = omega arith in
      ap (λ (k : ℕ). take k (drop 1 f)) n ∙ ap (λ (b : Bool). cond b (take (length f - 2) (drop 1 f)) f) (sym yes-quoted)

-- all of these
pub ruleset unquoting = (kept_short, kept_open, kept_unclosed, quotes_off)

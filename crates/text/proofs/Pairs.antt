-- A CRLF by the windows of two bytes of a text: which windows there are, and that the first that is a CRLF stands where the record ends.
use Prim.Native.Nat.{ℕ, suc, ◌+◌}
use mathlib.Core.Path.{◌≡◌, refl, sym, ap, ◌∙◌}
use mathlib.Core.Bool.{Bool, true, false, not, ◌&&◌, cond, and-true, true≢false}
use mathlib.Core.List.{List, [], ◌∷◌}
use native.Mathlib.Omega.{arith}
use native.Mathlib.Numerals.{one-add}
use borrow.Author.Tests.{lt-ltb, le-ltb, ltb-true, ltb-false}
use lib.Dec.{eqb}
use lib.ListN.{length, take, drop}
use lib.Pointwise.{pointwise}
use Rattle.std.specs.Iterator.{AlwaysYields}
use Rattle.std.specs.List.{position_or_len}
use Rattle.std.specs.Slice.Iter.{windows_size, windows_rest, windows_steps}
use Rattle.std.specs.declared.slice.Windows.{Windows}
use Rattle.std.proofs.lemmas.Iterator.{YieldsList}
use Rattle.text.specs.Places.{at_crlf, bytes_before}
use Rattle.text.proofs.Ends.{Found}

-- the windows, one after the other
abbrev pub pairs : List ℕ → List (List ℕ)
pairs [] = []
pairs (a ∷ []) = []
pairs (a ∷ b ∷ l) = (a ∷ b ∷ []) ∷ pairs (b ∷ l)

pairs-yielded : (l : List ℕ) (s : Windows ℕ) → windows_size s ≡ 2 → windows_rest s ≡ l → AlwaysYields windows_steps (λ x. x.now) s (pairs l)
pairs-yielded [] s n e = λ x j h. absurd (omega (arith, h.1.0, n, ap length e))
pairs-yielded (a ∷ []) s n e = λ x j h. absurd (omega (arith, h.1.0, n, ap length e))
pairs-yielded (a ∷ b ∷ l) s n e = (
  (λ j h. absurd (omega (arith, h.1.0, n, ap length e))),
  (λ x j h. (h.1.1 ∙ (λ i. take (n i) (e i)), pairs-yielded (b ∷ l) j (h.0 ∙ n) (h.1.2 ∙ ap (drop 1) e))),
)

pub yields_pairs : (l : List ℕ) {s : Windows ℕ} → windows_size s ≡ 2 → windows_rest s ≡ l → YieldsList windows_steps (λ x. x.now) s (pairs l)
yields_pairs l n e = record { runs = pairs-yielded l _ n e }

abbrev pub is_pair : List ℕ → Bool
is_pair pair = pointwise eqb pair (13 ∷ 10 ∷ [])

one_pair_more : (is : Bool) (n size m len : ℕ) → Found n size m len → Found (cond (not is) (1 + n) 0) (suc size) (cond is 0 (suc m)) (suc len)
one_pair_more true n size m len f = record { some = λ e. refl; none = λ e. absurd (omega (arith, ltb-false 0 (suc size) e)) }
one_pair_more false n size m len f =
    record {
      some = λ e. ap suc (f.some (lt-ltb n size (omega (arith, ltb-true (1 + n) (suc size) e)))) ∙ sym (one-add n);
      none = λ e. ap suc (f.none (le-ltb n size (omega (arith, ltb-false (1 + n) (suc size) e))));
    }

-- the windows before the first CRLF are as many as the bytes before it
pub pair_found : (l : List ℕ) → Found (position_or_len is_pair (pairs l)) (length (pairs l)) (bytes_before at_crlf l) (length l)
unfolding at_crlf
pair_found [] = record { some = λ e. refl; none = λ e. refl }
pair_found (a ∷ []) = record { some = λ e. absurd (true≢false (sym e)); none = λ e. go (eqb a 13) }
  where
    go : (x : Bool) → ◌≡◌ {A = ℕ} (cond (x && false) 0 1) 1
    go true = refl
    go false = refl
pair_found (a ∷ b ∷ l) = rw (and-true (eqb b 10)) (one_pair_more (eqb a 13 && eqb b 10) _ _ _ _ (pair_found (b ∷ l)))

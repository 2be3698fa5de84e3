-- Fresh: all zeros.
use Prim.Native.Nat.{ℕ}
use mathlib.Core.Path.{◌≡◌, refl, sym, ◌∙◌}
use mathlib.Core.List.{List, []}
use native.Mathlib.Omega.{arith}
use lib.Dec.{eqb}
use lib.ListN.{length, replicate, length-replicate, get_or-replicate}
use lib.Seq.{ext_get_or}
use borrow.Author.Tests.{eq-eqb}
use Rattle.model.specs.Layout.{encode}
use Rattle.model.specs.Calls.{fresh, fresh_on, course_of}
use Rattle.model.specs.Words.{none, later}
use Rattle.std.proofs.Common.{Ok}
use Rattle.table.specs.Writes.{Zeroed}
use Rattle.inner.specs.Promise.{lent, Answers}
use Rattle.inner.proofs.Codes.{accepts, found}

pub fresh-zeros : (s s' : List ℕ) → length s ≡ 1602 → Zeroed s s' 0 1602 → Answers (lent [] [] []) s fresh (Ok 0) s'
unfolding course_of fresh_on encode
fresh-zeros s s' e z =
    accepts (lent [] [] []) s [] fresh 0 s' [] (later (found (eqb (length s) 1602) (eq-eqb (length s) 1602 e)) none) refl
    (ext_get_or 0 s' (replicate 1602 0) (z.size ∙ e ∙ sym (length-replicate {A = ℕ} 1602 0)) (λ i h. z.inside i (omega arith) (omega (arith, z.size)) ∙ sym (get_or-replicate {A = ℕ} 1602 i 0 0 (omega (arith, z.size))))) refl

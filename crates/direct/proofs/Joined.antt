-- What a test says of all elements, joined in one pass.
use Prim.Native.Nat.{ℕ, zero, suc, ◌<◌}
use Rattle.std.specs.List.{fold}
use mathlib.Core.Bool.{Bool, true, false, ◌||◌, or-false, true≢false}
use mathlib.Core.List.{List, [], ◌∷◌}
use mathlib.Core.Path.{◌≡◌, refl, sym, ap, ◌∙◌}
use native.Mathlib.Omega.{arith}
use lib.ListN.{length, get_or}
use Rattle.model.specs.Lists.{any}

or_twice : (a b c : Bool) → ((a || b) || c) ≡ (a || (b || c))
or_twice true b c = refl
or_twice false b c = refl

pub any_joined : {A : Type 0} (test : A → Bool) (xs : List A) (b : Bool) → fold (λ (b : Bool) (x : A). b || test x) b xs ≡ (b || any test xs)
any_joined test [] b = sym (or-false b)
any_joined test (x ∷ xs) b = any_joined test xs (b || test x) ∙ or_twice b (test x) (any test xs)

-- where no element passes, the one at a place does not
pub any_false : {A : Type 0} (test : A → Bool) (xs : List A) (k : ℕ) (d : A) → k < length xs → any test xs ≡ false → test (get_or xs k d) ≡ true → ⊥
any_false test [] k d l n e = absurd (omega arith)
any_false test (x ∷ xs) zero d l n e = true≢false (sym (ap (λ (b : Bool). b || any test xs) e) ∙ n)
any_false test (x ∷ xs) (suc k) d l n e = any_false test xs k d (omega arith) (rest (test x) n) e
  where
    rest : (b : Bool) → (b || any test xs) ≡ false → any test xs ≡ false
    rest true m = absurd (true≢false m)
    rest false m = m

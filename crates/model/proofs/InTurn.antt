-- Two tests in turn, of which the second is judged only where the first passes: what is judged last says of both.
use mathlib.Core.Path.{◌≡◌, sym, ap, ◌∙◌}
use mathlib.Core.Bool.{Bool, true, false, ◌&&◌}

module _ (p q : Bool) {whole : Bool} (parts : (p && q) ≡ whole) {first : Bool} (e : first ≡ p) where
  pub second_judged : {second : Bool} → first ≡ true → second ≡ q → second ≡ whole
  second_judged passed f = f ∙ ap (λ (b : Bool). b && q) (sym passed ∙ e) ∙ parts

  pub first-failed : first ≡ false → first ≡ whole
  first-failed failed = failed ∙ ap (λ (b : Bool). b && q) (sym failed ∙ e) ∙ parts

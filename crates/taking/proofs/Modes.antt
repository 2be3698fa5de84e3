-- Who may revoke: what each mode asks.
use Prim.Native.Nat.{ℕ}
use mathlib.Core.Path.{◌≡◌, sym, ap, ◌∙◌}
use mathlib.Core.Bool.{true, false, cond}
use mathlib.Core.List.{List}
use lib.Dec.{eqb}
use Rattle.model.specs.Conditions.{active}
use Rattle.model.specs.Calls.{may_revoke}
use Rattle.model.specs.declared.Kind.{Kind}
use Rattle.model.specs.declared.Row.{Row}

module _ (rows : List Row) (read k : Kind) (caller appointer : ℕ) (e : read ≡ k) where
  pub by_role : eqb read.mode 0 ≡ false → eqb read.mode 1 ≡ true → active rows caller read.appointer ≡ may_revoke rows k caller appointer
  by_role m n = sym ((λ i. cond (m i) (eqb caller appointer) (cond (n i) (active rows caller read.appointer) false))) ∙ ap (λ (x : Kind). may_revoke rows x caller appointer) e

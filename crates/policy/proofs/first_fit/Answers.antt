use Rattle.std.proofs.Common.{◌+◌, ◌-◌, Bool, List, false, cond, ◌&&◌, sym, ap, ◌∙◌, arith, rules, drop}
use lib.Dec.{eqb}
use lib.ListN.{get_or}
use mathlib.Core.Bool.{and-true}
use Rattle.model.specs.Lists.{is_zero}
use Rattle.policy.proofs.Constants.{counted_alone}
use Rattle.policy.proofs.Places.{marks, first-counted, fit_more, all-judged}
use Rattle.policy.proofs.first_fit.Goals as goal

pub loop-j-init : goal.loop-j-init
loop-j-init g c = λ test says. first-counted test c.args.n c.args.numbers (omega arith) (search rules)

pub loop-j-preserved : goal.loop-j-preserved
loop-j-preserved g c = λ test says. fit_more test c.loop-j.joined c.wrong-joined.result c.loop-j.j (8 - c.args.n) c.fits.result c.args.numbers (search rules) (omega arith) (says _ _ c.fits.ensures) (c.wrong-joined.ensures ∙ ap (λ (t : List Bool). cond (get_or t (8 - c.args.n + c.loop-j.j) false) c.fits.result (is_zero (get_or c.args.numbers c.loop-j.j 0))) (counted_alone _ c.counting-counting.ensures)) ∙ c.loop-j.invariant test says

pub returns : goal.returns
returns g c = λ test says. sym (and-true (eqb c.loop-j.joined 0)) ∙ ap (λ (b : Bool). eqb c.loop-j.joined 0 && b) (sym (all-judged test c.args.numbers c.loop-j.j (drop (8 - c.args.n + c.loop-j.j) marks) (search rules))) ∙ c.loop-j.invariant test says

use Rattle.std.proofs.Common.{ℕ, rules, take, sym, arith, ap, ◌∙◌}
use borrow.Author.Tests.{tests}
use lib.Dec.{eqb}
use lib.Seq.{length-take-le}
use Rattle.std.proofs.lemmas.Iterator.{YieldsList-from_slice}
use Rattle.std.proofs.lemmas.Iterator.Consumers.{fold_from_yields_List}
use Rattle.sound.proofs.Facts.{halves, halves_none}
use Rattle.sound.proofs.facts_are_bits.Goals as goal

pub slice_bounds-iter-end : goal.slice_bounds-iter-end
slice_bounds-iter-end c = sym (length-take-le 64 c.args.state.now (omega arith))

pub returns : goal.returns
returns c =
    ap (λ (n : ℕ). eqb n 0) (fold_from_yields_List _ halves 0 _ c.fold.ensures.ran (YieldsList-from_slice (take 64 c.args.state.now) cc) (λ a x b q k. search (rules, tests)))
    ∙ halves_none (take 64 c.args.state.now) 0

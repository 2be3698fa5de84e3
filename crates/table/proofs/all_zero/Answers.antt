use Rattle.std.proofs.Common.{ℕ, ◌+◌, ◌-◌, ◌≡◌, rules, take, drop, bit_or, ap, ◌∙◌, arith}
use Rattle.std.proofs.lemmas.Iterator.{YieldsList-from_slice}
use Rattle.std.proofs.lemmas.Iterator.Consumers.{fold_from_yields_List}
use Rattle.table.proofs.Zeros.{joined_zero}
use Rattle.table.proofs.all_zero.Goals as goal

pub returns : goal.returns
returns c =
    let asked = drop c.args.from c.args.numbers.now in
    let count : c.args.from + c.args.count - c.args.from ≡ c.args.count = omega arith in
    joined_zero c.fold.result 0 (take c.args.count asked) (fold_from_yields_List _ bit_or 0 c.fold.result c.fold.ensures.ran (YieldsList-from_slice (take c.args.count asked) (c.iter.ensures.rest ∙ ap (λ (n : ℕ). take n asked) count)) (λ a x b q k. search rules))

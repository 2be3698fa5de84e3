use Prim.Native.Nat.{ℕ, ◌-◌}
use borrow.Author.Rules.{rules}
use borrow.Author.Tests.{tests}
use lib.Dec.{eqb}
use lib.ListN.{length, take, drop}
use Rattle.std.proofs.lemmas.Iterator.{YieldsList-from_slice}
use Rattle.std.proofs.lemmas.Iterator.Search.{position_from_yields_List}
use Rattle.text.specs.Places.{at_comma, field_end}
use Rattle.text.proofs.Ends.{left_is, comma_found, end_found}
use Rattle.text.proofs.field_end.Goals as goal

pub returns : goal.returns
unfolding field_end
returns c =
    let s = c.args.bytes.now in
    let left = take (length s - c.args.from) (drop c.args.from s) in
    let e = position_from_yields_List (λ (b : ℕ). eqb b 44) _ _ c.position-comma.result c.position-comma.ensures.ran (YieldsList-from_slice left c.iter.ensures.rest) (λ x b q k. search (rules, tests)) in
    end_found at_comma s c.args.from left _ _ c.position-comma.result c.map_or.result c.requires (left_is s c.args.from) (comma_found left) e (search rules)

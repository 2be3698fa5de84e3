use Prim.Native.Nat.{◌-◌}
use borrow.Author.Rules.{rules}
use borrow.Author.Tests.{tests}
use lib.ListN.{length, take, drop}
use Rattle.std.proofs.lemmas.Iterator.Search.{position_from_yields_List}
use Rattle.text.specs.Places.{at_crlf, record_end}
use Rattle.text.proofs.Ends.{left_is, end_found}
use Rattle.text.proofs.Pairs.{is_pair, yields_pairs, pair_found}
use Rattle.text.proofs.record_end.Goals as goal

pub returns : goal.returns
unfolding record_end
returns c =
    let s = c.args.text.now in
    let left = take (length s - c.args.from) (drop c.args.from s) in
    let e = position_from_yields_List is_pair _ _ c.position-crlf.result c.position-crlf.ensures.ran (yields_pairs left c.windows.ensures.size c.windows.ensures.rest) (λ x b q k. search (rules, tests)) in
    end_found at_crlf s c.args.from left _ _ c.position-crlf.result c.map_or.result c.requires (left_is s c.args.from) (pair_found left) e (search rules)

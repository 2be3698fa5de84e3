use Rattle.std.proofs.Common.{rules}
use borrow.Author.Tests.{tests}
use Rattle.std.proofs.lemmas.Iterator.{YieldsList-from_slice}
use Rattle.marks.specs.Marked.{has, role_marked}
use Rattle.model.proofs.Chains.{all_of_chain}
use Rattle.marks.proofs.all_marked.Goals as goal

pub returns : goal.returns
returns c = all_of_chain (role_marked (has c.args.own.now)) _ _ _ c.all.ensures.ran (YieldsList-from_slice c.args.roles.now c.iter.ensures.rest) (λ x b q k. search (rules, tests))

use Rattle.std.proofs.Common.{ℕ, [], rules}
use borrow.Author.Tests.{tests}
use Rattle.std.proofs.lemmas.Iterator.{YieldsList-from_slice}
use Rattle.model.specs.Conditions.{meant}
use Rattle.table.specs.Entries.{world_at}
use Rattle.marks.specs.Marked.{has, holds_by}
use Rattle.model.proofs.Chains.{all_of_chain}
use Rattle.marks.proofs.all_conditions_hold.Goals as goal

pub returns : goal.returns
returns c = all_of_chain (λ (n : ℕ). holds_by (has c.args.own.now) (world_at [] c.args.kinds.now c.args.state.now) (meant n)) _ _ _ c.all.ensures.ran (YieldsList-from_slice c.args.conditions.now c.iter.ensures.rest) (λ x b q k. search (rules, tests))

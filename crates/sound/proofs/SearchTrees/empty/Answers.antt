use Rattle.sound.proofs.Searching.{finds_none}
use Rattle.sound.proofs.SearchTrees.empty.Goals as goal

pub returns-clause-finds : goal.returns-clause-finds
returns-clause-finds c = finds_none c.args.state c.requires

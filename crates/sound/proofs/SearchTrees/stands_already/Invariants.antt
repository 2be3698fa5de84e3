-- The invariant: what equals certificate i lies ahead of the search.
use Rattle.std.proofs.Common.{◌-◌, map, get_or}
use Rattle.sound.specs.Seen.{linked}
use Rattle.sound.proofs.Searching.{OnWay}
use Rattle.sound.proofs.SearchTrees.stands_already.Given as goal

abbrev pub invariant-loop-at : goal.invariant-loop-at
invariant-loop-at l = OnWay l.self.state.now l.i (map linked l.self.links) l.at l.bits

abbrev pub decreases-loop-at : goal.decreases-loop-at
decreases-loop-at l = 256 - get_or (map linked l.self.links) l.at 0

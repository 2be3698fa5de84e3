use mathlib.Core.Path.{◌∙◌}
use Rattle.reader.specs.Reading.{next_at}
use Rattle.text.proofs.Ends.{record-within}
use Rattle.reader.proofs.Walking.{next_past}
use native.Mathlib.Omega.{arith}
use Rattle.reader.proofs.Reader.moved.Goals as goal

pub returns-then-end-self : goal.returns-then-end-self
returns-then-end-self c = (c.new.ensures.0, c.new.ensures.1 ∙ next_past _ _ (omega arith))

pub overflow_add-behind : goal.overflow_add-behind
overflow_add-behind c = let within = record-within _ _ _ c.record_end-behind.ensures c.if-end-self.false in omega (arith, within.inside, c.ranges.self)

pub returns : goal.returns
unfolding next_at
returns c = (c.new-2.ensures.0, omega (arith, c.record_end-behind.ensures, c.min.ensures, c.new-2.ensures.1))

use mathlib.Core.Path.{ap}
use native.Mathlib.Omega.{arith}
use Rattle.text.specs.Places.{part}
use Rattle.reader.specs.Reading.{record_at}
use Rattle.text.proofs.Ends.{record-within}
use Rattle.reader.proofs.Walking.{record_past}
use Rattle.reader.proofs.Reader.record.Goals as goal

pub returns-then-self : goal.returns-then-self
returns-then-self c = record_past _ _ (omega arith)

pub slice_bounds-result-count : goal.slice_bounds-result-count
slice_bounds-result-count c = (record-within _ _ _ c.record_end-end.ensures c.if-self.false).ordered

pub slice_bounds-result-start : goal.slice_bounds-result-start
slice_bounds-result-start c = (record-within _ _ _ c.record_end-end.ensures c.if-self.false).ordered

pub slice_bounds-result-end-2 : goal.slice_bounds-result-end-2
slice_bounds-result-end-2 c = (record-within _ _ _ c.record_end-end.ensures c.if-self.false).inside

pub returns : goal.returns
unfolding record_at
returns c = ap (part _ _) c.record_end-end.ensures

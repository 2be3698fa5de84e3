use native.Mathlib.Omega.{arith}
use Rattle.model.specs.Layout.{decode, row_count}
use Rattle.table.specs.Entries.{first_rows, world_at}
use Rattle.fall.specs.Pass.{is_kept}
use Rattle.table.proofs.Form.{formed}
use Rattle.fall.proofs.Swept.{kept_as, none_left, staying-left}
use borrow.Author.Rules.{rules}
use Rattle.fall.proofs.fall.Goals as goal

pub returns-then-state-eq0 : goal.returns-then-state-eq0
returns-then-state-eq0 c = none_left _ c.args.state.now (formed c.args.state.now c.requires.0) c.if-state-eq0.true

pub returns : goal.returns
unfolding decode first_rows
returns c = let verdicts = c.judge_rows.new.verdicts in
    kept_as (is_kept verdicts) c.sweep.ensures (λ i l b k. search rules)
    (staying-left (world_at c.args.policy.rules.now c.args.policy.kinds.now c.args.state.now) c.args.state.now verdicts c.judge_rows.ensures (row_count c.args.state.now) (omega arith))

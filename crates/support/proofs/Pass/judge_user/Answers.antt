use mathlib.Core.Path.{ap}
use Rattle.model.specs.declared.Row.{Row}
use Rattle.support.proofs.Walking.{walk_starts, walk_within, marks_reach, walk_past, walk_on, walk_ends}
use Rattle.support.proofs.Pass.judge_user.Goals as goal

pub loop-next-init : goal.loop-next-init
loop-next-init c = walk_starts c.args.self.now.in_range c.requires.0 c.row_at-user.ensures c.requires.1 c.requires.2

pub judge_row-requires : goal.judge_row-requires
judge_row-requires c = let range = c.args.self.now.in_range in
    (walk_within range c.in-Some.is c.loop-next.invariant, marks_reach range c.in-Some.is c.loop-next.invariant c.row_at-row.ensures c.if-row-user.true)

pub loop-next-preserved-then-row-user : goal.loop-next-preserved-then-row-user
loop-next-preserved-then-row-user c = let pass = c.args.self.now in
    walk_on pass.in_range c.in-Some.is c.loop-next.invariant c.row_at-row.ensures pass.rows_queued c.behind-next.ensures c.if-row-user.true c.judge_row.ensures.entered c.judge_row.ensures.said

pub loop-next-preserved : goal.loop-next-preserved
loop-next-preserved c = let pass = c.args.self.now in
    walk_past pass.in_range c.in-Some.is c.loop-next.invariant c.row_at-row.ensures pass.rows_queued c.behind-next.ensures c.if-row-user.false

pub returns : goal.returns
returns c = walk_ends c.args.self.now.in_range c.loop-next.invariant c.in_default.is (ap (λ (r : Row). r.user) c.row_at-user.ensures)

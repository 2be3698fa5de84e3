use Rattle.support.specs.Verdicts.{world_under}
use Rattle.support.proofs.Walking.{own_first}
use Rattle.support.proofs.Pass.judge_from_first.Goals as goal

pub judge_user-requires : goal.judge_user-requires
judge_user-requires c = let pass = c.args.self.now in
    (c.requires.0, own_first (world_under pass.policy pass.state.now) pass.state.now c.args.i c.row_at-row.ensures c.requires.1 c.enter_kinds.ensures, c.requires.2)

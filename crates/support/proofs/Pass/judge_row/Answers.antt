use Rattle.support.specs.Verdicts.{world_under}
use Rattle.support.proofs.Entering.{row-falls, row-twice, row_stays, role_has_mark}
use Rattle.support.proofs.Pass.judge_row.Goals as goal

pub returns-then-not-row_supported : goal.returns-then-not-row_supported
returns-then-not-row_supported c = let pass = c.args.self.now in
    let judged = row-falls (world_under pass.policy pass.state.now) pass.state.now c.args.k c.requires.1 c.row_at-row.ensures c.row_supported.ensures c.if-not-row_supported.true in
    record { said = judged.0; entered = judged.1 }

pub bounds-own-role : goal.bounds-own-role
bounds-own-role c = let pass = c.args.self.now in
    role_has_mark (world_under pass.policy pass.state.now) pass.state.now c.args.k c.requires.1 c.row_at-row.ensures c.row_supported.ensures pass.in_range c.requires.0 c.from-role.ensures

pub returns-then-own-role : goal.returns-then-own-role
returns-then-own-role c = let pass = c.args.self.now in
    let judged = row-twice (world_under pass.policy pass.state.now) pass.state.now c.args.k c.requires.1 c.row_at-row.ensures c.row_supported.ensures pass.in_range c.requires.0 c.from-role.ensures c.if-not-row_supported.false c.if-own-role.true in
    record { said = judged.0; entered = judged.1 }

pub bounds-own-role-2 : goal.bounds-own-role-2
bounds-own-role-2 c = let pass = c.args.self.now in
    role_has_mark (world_under pass.policy pass.state.now) pass.state.now c.args.k c.requires.1 c.row_at-row.ensures c.row_supported.ensures pass.in_range c.requires.0 c.from-role.ensures

pub returns : goal.returns
returns c = let pass = c.args.self.now in
    let judged = row_stays (world_under pass.policy pass.state.now) pass.state.now c.args.k c.requires.1 c.row_at-row.ensures c.row_supported.ensures pass.in_range c.requires.0 c.from-role.ensures c.if-not-row_supported.false c.if-own-role.false in
    record { said = judged.0; entered = judged.1 }

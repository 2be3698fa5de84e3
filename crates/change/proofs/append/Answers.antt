use Rattle.std.proofs.Common.{◌+◌, ◌-◌, ◌*◌, ◌≡◌, length, rules, arith}
use Rattle.change.proofs.Changed.{appended}
use Rattle.change.proofs.append.Goals as goal

pub returns : goal.returns
returns c =
    let long : length c.args.entry ≡ 3 = search rules in
    let three : c.from.result * 3 + c.args.at + 1 + 3 - (c.from.result * 3 + c.args.at + 1) ≡ 3 = omega arith in
    rw c.copy_from_slice.ensures.after (appended c.args.state.now c.args.entry c.args.at c.from.result _ c.from.ensures three long c.requires.0 c.requires.1)

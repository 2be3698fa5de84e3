use mathlib.Core.Path.{subst⁻¹}
use mathlib.Core.List.{List}
use Rattle.std.specs.Prelude.{Option}
use Rattle.support.specs.Verdicts.{world_under}
use Rattle.support.specs.declared.Verdict.{Verdict}
use Rattle.support.proofs.Walking.{JudgedBefore, judged_none}
use Rattle.support.proofs.Pass.judge_each.Goals as goal

pub loop-i-init : goal.loop-i-init
loop-i-init c = let pass = c.args.self.now in
    subst⁻¹ (λ (v : List (Option Verdict)). JudgedBefore (world_under pass.policy pass.state.now) pass.state.now 0 v) c.requires (judged_none (world_under pass.policy pass.state.now) pass.state.now)

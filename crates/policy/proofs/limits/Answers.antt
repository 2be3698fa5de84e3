use Rattle.policy.proofs.Constants.{limits_are}
use Rattle.policy.proofs.limits.Goals as goal

pub returns : goal.returns
returns c = limits_are

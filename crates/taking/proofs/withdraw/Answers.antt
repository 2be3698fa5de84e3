use Rattle.taking.proofs.Falls.{withdrawn}
use Rattle.taking.proofs.withdraw.Goals as goal

pub returns : goal.returns
returns c = withdrawn _ _ _ _ c.requires _ _ _ _ _ c.take_away.ensures

use Rattle.std.proofs.Common.{rules}
use borrow.Author.Tests.{tests}
use Rattle.std.proofs.lemmas.Iterator.{YieldsList-from_slice}
use Rattle.model.proofs.Chains.{all_of_chain}
use Rattle.sound.specs.Fitting.{said_to_stay}
use Rattle.sound.proofs.each_stays.Goals as goal

pub returns : goal.returns
returns c = all_of_chain said_to_stay _ _ _ c.all.ensures.ran (YieldsList-from_slice c.args.verdicts.now cc) (λ x b q k. search (rules, tests))

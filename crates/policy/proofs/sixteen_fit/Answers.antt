use Rattle.std.proofs.Common.{rules, ℕ, List, false, not, ap, ◌∙◌}
use borrow.Author.Tests.{tests}
use Rattle.std.proofs.lemmas.Iterator.{YieldsList-from_slice, YieldsList-from_zip}
use Rattle.std.proofs.lemmas.Iterator.Consumers.{fold_from_yields_List}
use Rattle.std.specs.List.{fold, zip}
use Rattle.policy.proofs.Constants.{limits_alone}
use Rattle.policy.proofs.Rights.{over, within}
use Rattle.policy.proofs.sixteen_fit.Goals as goal

pub returns : goal.returns
returns c =
    ap not (fold_from_yields_List _ over false _ c.fold.ensures.ran (YieldsList-from_zip (YieldsList-from_slice c.args.numbers.now cc) (YieldsList-from_slice c.limits.result.now cc)) (λ a x b q k. search (rules, tests)))
    ∙ ap (λ (l : List ℕ). not (fold over false (zip c.args.numbers.now l))) (limits_alone _ c.limits.ensures)
    ∙ within 16 c.args.numbers.now false c.told-numbers

use mathlib.Core.Path.{ap, ◌∙◌}
use borrow.Author.Rules.{rules}
use borrow.Author.Tests.{tests}
use Rattle.std.proofs.lemmas.Iterator.{YieldsList-from_slice}
use Rattle.std.proofs.lemmas.Iterator.Search.{find_from_yields_List}
use Rattle.program.specs.Vocabulary.{same, numbered}
use Rattle.program.specs.Said.{number_of, word_said}
use Rattle.program.specs.declared.Word.{Word}
use Rattle.text.proofs.Letters.{named, word_found}
use Rattle.text.proofs.word_of.Goals as goal

pub returns : goal.returns
returns c =
    let e = find_from_yields_List (λ (w : Word). same c.args.field.now (numbered (number_of w)).letters) _ _ c.find.result c.find.ensures.ran (YieldsList-from_slice named c.iter.ensures.rest) (λ x b q k. search (rules, tests)) in
    ap word_said (c.copied.ensures ∙ e) ∙ word_found c.args.field.now

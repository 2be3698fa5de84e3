use Rattle.std.proofs.Common.{ℕ, rules, sym, ◌∙◌}
use borrow.Author.Tests.{tests}
use Rattle.std.proofs.lemmas.Iterator.Adapters.{option_map_id}
use Rattle.std.proofs.lemmas.Iterator.Search.{find_from_yields_List}
use Rattle.model.specs.Conditions.{is_row}
use Rattle.table.specs.Entries.{row_at}
use Rattle.rests.proofs.Newest.{counted-down, found-newest}
use Rattle.rests.proofs.newest_row.Goals as goal

pub returns : goal.returns
returns c =
    sym (option_map_id c.find.result)
    ∙ find_from_yields_List (λ (i : ℕ). is_row c.args.user c.args.role (row_at c.args.state.now i)) _ _ c.find.result c.find.ensures.ran (counted-down c.args.k c.rev.ensures.source) (λ x b q k. search (rules, tests))
    ∙ found-newest c.args.state.now c.args.user c.args.role c.args.k

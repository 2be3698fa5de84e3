use Rattle.program.specs.Said.{line_of_read}
use Rattle.load.proofs.Appending.{right_row_lem}
use borrow.Author.Rules.{rules}
use Rattle.load.proofs.right_row.Goals as goal

pub returns : goal.returns
returns c = right_row_lem (line_of_read c.args.line) (search rules)

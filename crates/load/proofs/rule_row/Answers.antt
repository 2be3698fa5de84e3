use Rattle.program.specs.Said.{line_of_read}
use Rattle.load.proofs.Appending.{rule-row}
use borrow.Author.Rules.{rules}
use Rattle.load.proofs.rule_row.Goals as goal

pub returns : goal.returns
returns c = rule-row (line_of_read c.args.line) (search rules)

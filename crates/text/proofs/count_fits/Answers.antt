use Rattle.text.proofs.Counts.{count_enough, count_few}
use Rattle.text.proofs.count_fits.Goals as goal

pub returns-then-least-count : goal.returns-then-least-count
returns-then-least-count c = count_enough c.args.word c.place_of.result c.args.count c.place_of.ensures c.if-least-count.true

pub returns-else-least-count : goal.returns-else-least-count
returns-else-least-count c = count_few c.args.word c.place_of.result c.args.count c.place_of.ensures c.if-least-count.false

use Rattle.std.proofs.Common.{◌∙◌}
use Rattle.sound.proofs.Forms.{zeros_past, past_most}
use Rattle.sound.proofs.counted.Goals as goal

pub returns-then-count-most : goal.returns-then-count-most
returns-then-count-most c = c.all_zero.ensures ∙ zeros_past c.args.state.now c.args.at c.args.most c.args.width c.from-count.result c.from-count.ensures c.requires c.if-count-most.true

pub returns-else-count-most : goal.returns-else-count-most
returns-else-count-most c = past_most c.args.state.now c.args.at c.args.most c.args.width c.from-count.result c.from-count.ensures c.if-count-most.false

use mathlib.Core.Path.{◌∙◌}
use borrow.Author.Tests.{lt-ltb}
use Rattle.policy.proofs.Conditions.{fits_low, fits_high}
use Rattle.policy.proofs.condition_fits.Goals as goal

pub returns-then-c-end_of_kinds : goal.returns-then-c-end_of_kinds
returns-then-c-end_of_kinds c = lt-ltb _ _ c.if-c-end_of_kinds.true ∙ fits_low c.args.kinds.now c.requires c.args.c c.end_of_kinds.result c.end_of_kinds.ensures c.if-c-end_of_kinds.true

pub returns-else-c-end_of_kinds : goal.returns-else-c-end_of_kinds
returns-else-c-end_of_kinds c = fits_high c.args.kinds.now c.requires c.args.c c.end_of_kinds.result c.end_of_kinds.ensures c.if-c-end_of_kinds.false

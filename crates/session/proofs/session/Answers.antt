use mathlib.Core.Path.{ap}
use native.Mathlib.Omega.{arith}
use lib.ListN.{length}
use borrow.Author.Rules.{rules}
use Rattle.model.proofs.Accepted.{zeros-sound}
use Rattle.session.proofs.Whole.{held_in, too_long, loaded_and_run}
use Rattle.session.proofs.session.Goals as goal

pub returns-then-text-gt-MOST_BYTES : goal.returns-then-text-gt-MOST_BYTES
returns-then-text-gt-MOST_BYTES c =
    let start = c.new-writer.ensures.start in
    held_in _ _ _ _ (too_long c.args.text.now _ c.write_bad.new.self.at _ _ start.1 c.if-text-gt-MOST_BYTES.true (omega (arith, c.requires, ap length start.0)) c.write_bad.ensures.wrote) (search rules)

pub run-requires : goal.run-requires
run-requires c =
    let events = c.new-events.ensures in
    let size = ap (λ (text : _). length text.now) events.0 in
    let loads = c.load-loaded.ensures in
    (zeros-sound _, omega (arith, size, events.1, loads.in_text), omega (arith, events.1, loads.few), omega (arith, size, c.if-text-gt-MOST_BYTES.false), omega (arith, size, c.requires))

pub returns : goal.returns
returns c =
    let events = c.new-events.ensures in
    loaded_and_run c.args.text.now _ c.run.result _ _ _ c.load-loaded.result _ _ (ap (λ (text : _). text.now) events.0) events.1 (omega (arith, c.if-text-gt-MOST_BYTES.false)) c.load-loaded.ensures c.run.ensures

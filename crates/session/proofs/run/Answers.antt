use Prim.Native.Nat.{ℕ, ◌<◌}
use mathlib.Core.Path.{ap, ◌∙◌, subst}
use Rattle.program.specs.Program.{answer_record}
use Rattle.writer.specs.Writing.{Wrote}
use mathlib.Core.List.{List}
use native.Mathlib.Omega.{arith}
use lib.ListN.{length}
use borrow.Author.Rules.{rules}
use Rattle.program.specs.Said.{line_of_read}
use Rattle.program.proofs.Counted.{named_known}
use Rattle.reader.specs.Reading.{line_at, next_at}
use Rattle.reader.proofs.Walking.{next-behind}
use Rattle.session.proofs.Runs.{an_event, no_event, runs_on, runs_bad}
use Rattle.session.proofs.Whole.{held_in}
use Rattle.session.proofs.run.Goals as goal

pub returns-in_default : goal.returns-in_default
returns-in_default c =
    let same = c.loop-reader.invariant.0 in
    let here = c.line.ensures ∙ ap (λ (text : List ℕ). line_at text c.loop-reader.reader.at) same in
    let bad = no_event _ c.line.result c.args.reader.text.now c.loop-reader.reader.at here (λ x b says. search rules) c.in_default.ensures in
    let inside : c.loop-reader.reader.at < length c.args.reader.text.now = omega (arith, c.loop-reader-test.true, ap length same) in
    held_in _ _ _ _ (runs_bad _ _ _ _ _ _ _ _ _ _ _ c.loop-reader.invariant.2 _ _ inside c.requires.3 bad c.write_bad.ensures.wrote) (search rules)

pub loop-reader-smaller : goal.loop-reader-smaller
loop-reader-smaller c =
    let same = c.loop-reader.invariant.0 in
    let next = c.moved-reader.ensures.1 ∙ ap (λ (text : List ℕ). next_at text c.loop-reader.reader.at) same in
    let inside : c.loop-reader.reader.at < length c.args.reader.text.now = omega (arith, c.loop-reader-test.true, ap length same) in
    omega (arith, next, inside, next-behind c.args.reader.text.now c.loop-reader.reader.at inside)

pub loop-reader-preserved : goal.loop-reader-preserved
loop-reader-preserved c =
    let same = c.loop-reader.invariant.0 in
    let here = c.line.ensures ∙ ap (λ (text : List ℕ). line_at text c.loop-reader.reader.at) same in
    let said = an_event _ c.line.result c.args.reader.text.now c.loop-reader.reader.at here c.in-Some.line c.in-Some.ensures in
    let next = c.moved-reader.ensures.1 ∙ ap (λ (text : List ℕ). next_at text c.loop-reader.reader.at) same in
    let inside : c.loop-reader.reader.at < length c.args.reader.text.now = omega (arith, c.loop-reader-test.true, ap length same) in (
      ap (λ (text : _). text.now) c.moved-reader.ensures.0 ∙ same,
      c.write_answer.ensures.same_bytes ∙ c.loop-reader.invariant.1,
      runs_on _ _ _ _ _ _ _ _ _ _ _ c.loop-reader.invariant.2 (line_of_read c.in-Some.line) _ c.answer_event-answer.result _ _ _ inside said next (search rules) (named_known c.in-Some.line.word) (search rules) (search rules) c.answer_event-answer.ensures.answer c.answer_event-answer.ensures.kept
          (subst (λ (bytes : List ℕ). Wrote c.loop-reader.writer.out.now c.write_answer.new.self.out.now c.loop-reader.writer.at bytes c.write_answer.new.self.at) (λ i. answer_record (c.into.ensures.0 i) (c.into.ensures.1 i)) c.write_answer.ensures.wrote),
      c.answer_event-answer.auto.state ∙ c.loop-reader.invariant.3,
    )

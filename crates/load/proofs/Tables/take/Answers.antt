use mathlib.Core.Path.{refl, ap, ◌∙◌}
use mathlib.Core.List.{List, ◌++◌}
use Prim.Native.Nat.{ℕ, ◌*◌}
use native.Mathlib.Omega.{arith}
use lib.ListN.{take}
use Rattle.program.specs.Said.{number_of, line_of_read}
use Rattle.load.proofs.Appending.{with_rule, with_kind, with_right, is-right, rules-below, kinds-below, rights-below}
use borrow.Author.Rules.{rules}
use Rattle.load.proofs.Tables.take.Goals as goal

pub append-requires : goal.append-requires
append-requires c =
    let below = rules-below _ _ c.requires.room (ap number_of c.in-Rule.is) in
    (omega arith, omega (arith, below, c.requires.fits.rules_size))

pub returns-in-Rule-clause-rows : goal.returns-in-Rule-clause-rows
returns-in-Rule-clause-rows c =
    let before = take (c.args.self.now.counts.rules * 11) c.args.self.now.rules.now in
    with_rule _ _ _ c.args.self.now.counts (line_of_read c.args.line) _ _ (ap number_of c.in-Rule.is) refl (c.append.ensures ∙ ap (λ (row : List ℕ). before ++ row) c.rule_row.ensures)

pub append-requires-in-Kind : goal.append-requires-in-Kind
append-requires-in-Kind c =
    let below = kinds-below _ _ c.requires.room (ap number_of c.in-Kind.is) in
    (omega arith, omega (arith, below, c.requires.fits.kinds_size))

pub returns-in-Kind-clause-rows : goal.returns-in-Kind-clause-rows
returns-in-Kind-clause-rows c =
    let before = take (c.args.self.now.counts.kinds * 7) c.args.self.now.kinds.now in
    with_kind _ _ _ c.args.self.now.counts (line_of_read c.args.line) _ _ (ap number_of c.in-Kind.is) refl (c.append-in-Kind.ensures ∙ ap (λ (row : List ℕ). before ++ row) c.kind_row.ensures)

pub append-requires-in_default : goal.append-requires-in_default
append-requires-in_default c =
    let below = rights-below _ _ c.requires.room (is-right _ _ c.requires.room c.in_default.not-Rule c.in_default.not-Kind) in
    (omega arith, omega (arith, below, c.requires.fits.rights_size))

pub returns-in_default-clause-fits : goal.returns-in_default-clause-fits
returns-in_default-clause-fits c =
    let below = rights-below _ _ c.requires.room (is-right _ _ c.requires.room c.in_default.not-Rule c.in_default.not-Kind) in
    let fits = c.requires.fits in
    record {
      rules_size = fits.rules_size;
      kinds_size = fits.kinds_size;
      rights_size = search rules;
      rules_room = fits.rules_room;
      kinds_room = fits.kinds_room;
      rights_room = omega (arith, below);
    }

pub returns-in_default-clause-rows : goal.returns-in_default-clause-rows
returns-in_default-clause-rows c =
    let before = take (c.args.self.now.counts.rights * 2) c.args.self.now.rights.now in
    with_right _ _ _ c.args.self.now.counts (line_of_read c.args.line) _ _ (is-right _ _ c.requires.room c.in_default.not-Rule c.in_default.not-Kind) refl (c.append-in_default.ensures ∙ ap (λ (row : List ℕ). before ++ row) c.right_row.ensures)

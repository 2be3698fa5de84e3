use Prim.Native.Nat.{ℕ}
use mathlib.Core.Path.{◌≡◌, refl, sym, ap, ◌∙◌}
use mathlib.Core.List.{List}
use mathlib.Core.Bool.{false}
use native.Mathlib.Omega.{arith}
use borrow.Author.Rules.{rules}
use Rattle.reader.specs.Reading.{line_at, next_at}
use Rattle.reader.proofs.Walking.{next-behind}
use Rattle.load.specs.Loading.{has_room}
use Rattle.load.specs.Filling.{Fits}
use Rattle.load.proofs.Appending.{no_line}
use Rattle.load.proofs.Machines.{going_starts, going_stops, going_on, room_in, counted_two, same_loads}
use Rattle.load.proofs.load.Goals.{in-None-1, in-Some+else-has_room}
use Rattle.load.proofs.load.Goals as goal

pub loop-line-init : goal.loop-line-init
loop-line-init c =
    let none : c.default.result ≡ record { rules = 0; kinds = 0; rights = 0 } = search rules in
    let fits : Fits _ = record { rules_size = c.requires.0; kinds_size = c.requires.1; rights_size = c.requires.2; rules_room = omega arith; kinds_room = omega arith; rights_room = omega arith } in
    (ap (λ (text : _). text.now) c.new-reader.ensures.0, record { rules = refl; kinds = refl; rights = refl }, rw c.new-reader.ensures.1 (going_starts c.args.text.now _ fits none))

pub take-requires-clause-counted : goal.take-requires-clause-counted
take-requires-clause-counted c =
    let here = c.in-Some.ensures ∙ ap (λ (text : List ℕ). line_at text c.loop-line.reader.at) c.loop-line.invariant.0 in
    counted_two _ _ _ _ here (sym c.if-has_room.ensures)

pub loop-line-smaller : goal.loop-line-smaller
loop-line-smaller c =
    let same = c.loop-line.invariant.0 in
    let here = c.in-Some.ensures ∙ ap (λ (text : List ℕ). line_at text c.loop-line.reader.at) same in
    let next = c.moved-reader.ensures.1 ∙ ap (λ (text : List ℕ). next_at text c.loop-line.reader.at) same in
    let inside = room_in _ _ _ _ c.loop-line.invariant.2 (ap (has_room c.loop-line.tables.counts) (sym here) ∙ sym c.if-has_room.ensures) in
    omega (arith, next, inside, next-behind c.args.text.now c.loop-line.reader.at inside)

pub loop-line-preserved : goal.loop-line-preserved
loop-line-preserved c =
    let same = c.loop-line.invariant.0 in
    let tables = c.loop-line.invariant.1 in
    let here = c.in-Some.ensures ∙ ap (λ (text : List ℕ). line_at text c.loop-line.reader.at) same in
    let next = c.moved-reader.ensures.1 ∙ ap (λ (text : List ℕ). next_at text c.loop-line.reader.at) same in
    let taken = c.take.ensures in (
      ap (λ (text : _). text.now) c.moved-reader.ensures.0 ∙ same,
      record { rules = taken.same_tables.rules ∙ tables.rules; kinds = taken.same_tables.kinds ∙ tables.kinds; rights = taken.same_tables.rights ∙ tables.rights },
      going_on _ _ _ _ c.loop-line.invariant.2 _ _ _ here next (sym c.if-has_room.ensures) taken.fits taken.rows,
    )

pub returns : goal.returns
returns c =
    let same = c.loop-line.invariant.0 in
    let here = ap (λ (text : List ℕ). line_at text c.loop-line.reader.at) same in
    let none : has_room c.loop-line.tables.counts (line_at c.args.text.now c.loop-line.reader.at) ≡ false =
    elim c.match-line.branch [
      | in-None-1 w ↦ no_line _ _ _ (c.line.ensures ∙ here) (search rules)
      | in-Some+else-has_room w ↦ ap (has_room c.loop-line.tables.counts) (sym (w.in-Some.ensures ∙ here)) ∙ sym w.has_room.ensures ∙ w.if-has_room.false
    ] in
    let loads = going_stops _ _ _ _ c.loop-line.invariant.2 none in
    same_loads _ _ _ _ _ loads _ _ _ _ (search rules) (search rules) (search rules) refl

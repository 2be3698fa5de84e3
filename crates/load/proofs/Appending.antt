-- One row more of a table, number by number, and a line of the policy as a row.
use Prim.Native.Nat.{ℕ, ◌+◌, ◌-◌, ◌*◌, ◌≤◌, ◌<◌}
use mathlib.Core.Path.{◌≡◌, refl, sym, ap, ◌∙◌}
use mathlib.Core.Bool.{Bool, true, false, cond, true≢false}
use mathlib.Core.Logic.{◌≢◌, ◌⊎◌, inl, inr}
use mathlib.Core.List.{List, ◌∷◌, ◌++◌}
use native.Mathlib.Omega.{arith}
use lib.Dec.{eqb, ltb}
use lib.ListN.{length, take, drop, length-drop}
use lib.Seq.{take_all}
use borrow.Author.Tests.{ne_eqb, ltb-true}
use Rattle.model.specs.Values.{Tables}
use Rattle.model.specs.Layout.{number}
use Rattle.model.proofs.Tests.{lt_or_ge}
use Rattle.model.proofs.Numbers.{cells, part_cells}
use Rattle.program.specs.Lines.{Line, unknown}
use Rattle.program.specs.Said.{number_of, line_of_read, line_said}
use Rattle.std.specs.Prelude.{Option, None}
use Rattle.program.specs.declared.Line.{Line as Read}
use Rattle.program.specs.declared.Word.{Word as Named}
use Rattle.program.specs.declared.Word.TheVariants.{Rule, Kind, Right, Activate, Appoint, Revoke, Withdraw, Env, Logout, Invoke, Effective}
use Rattle.program.specs.Program.{rule_row, kind_row, right_row, with_row}
use Rattle.load.specs.Loading.{tables_of, has_room}
use Rattle.load.specs.declared.Counts.{Counts}

-- ── the numbers of a line, one by one ──

module _ (l : Line) (ten : length l.numbers ≡ 10) where
  pub rule-row : number l.numbers 0 ∷ (l.count - 2) ∷ number l.numbers 1 ∷ cells l.numbers 0 2 8 ≡ rule_row l
  rule-row =
      let rest : drop 2 l.numbers ≡ cells l.numbers 0 2 8 = sym (take_all 8 (drop 2 l.numbers) (simp length-drop (omega (arith, ten)))) ∙ part_cells l.numbers 0 2 8 (omega (arith, ten)) in
      λ i. number l.numbers 0 ∷ (l.count - 2) ∷ number l.numbers 1 ∷ sym rest i

  pub right_row_lem : cells l.numbers 0 0 2 ≡ right_row l
  right_row_lem = sym (part_cells l.numbers 0 0 2 (omega (arith, ten)))

-- ── one row more of one table ──

-- what a line of the word w adds to the tables
abbrev with_word : ℕ → Tables → Line → Tables
with_word w t l = record { rules = cond (eqb w 0) (t.rules ++ rule_row l) t.rules; kinds = cond (eqb w 1) (t.kinds ++ kind_row l) t.kinds; rights = cond (eqb w 2) (t.rights ++ right_row l) t.rights }

by_word : (t : Tables) (l : Line) {w : ℕ} → l.word ≡ w → with_word w t l ≡ with_row t l
unfolding with_row
by_word t l e = ap (λ (n : ℕ). with_word n t l) (sym e)

module _ (rules kinds rights : List ℕ) (c : Counts) (l : Line) (table : List ℕ) (n : ℕ) where
  pub with_rule : l.word ≡ 0 → n ≡ c.rules + 1 → take (c.rules * 11 + 11) table ≡ take (c.rules * 11) rules ++ rule_row l → tables_of table kinds rights (record { rules = n; kinds = c.kinds; rights = c.rights }) ≡ with_row (tables_of rules kinds rights c) l
  with_rule w m e =
      let more : n * 11 ≡ c.rules * 11 + 11 = omega (arith, m) in
      (λ i. record { rules = (ap (λ (k : ℕ). take k table) more ∙ e) i; kinds = take (c.kinds * 7) kinds; rights = take (c.rights * 2) rights }) ∙ by_word (tables_of rules kinds rights c) l w

  pub with_kind : l.word ≡ 1 → n ≡ c.kinds + 1 → take (c.kinds * 7 + 7) table ≡ take (c.kinds * 7) kinds ++ kind_row l → tables_of rules table rights (record { rules = c.rules; kinds = n; rights = c.rights }) ≡ with_row (tables_of rules kinds rights c) l
  with_kind w m e =
      let more : n * 7 ≡ c.kinds * 7 + 7 = omega (arith, m) in
      (λ i. record { rules = take (c.rules * 11) rules; kinds = (ap (λ (k : ℕ). take k table) more ∙ e) i; rights = take (c.rights * 2) rights }) ∙ by_word (tables_of rules kinds rights c) l w

  pub with_right : l.word ≡ 2 → n ≡ c.rights + 1 → take (c.rights * 2 + 2) table ≡ take (c.rights * 2) rights ++ right_row l → tables_of rules kinds table (record { rules = c.rules; kinds = c.kinds; rights = n }) ≡ with_row (tables_of rules kinds rights c) l
  with_right w m e =
      let more : n * 2 ≡ c.rights * 2 + 2 = omega (arith, m) in
      (λ i. record { rules = take (c.rules * 11) rules; kinds = take (c.kinds * 7) kinds; rights = (ap (λ (k : ℕ). take k table) more ∙ e) i }) ∙ by_word (tables_of rules kinds rights c) l w

-- ── room ──

-- whether there is room for a row of the word w
abbrev room_for : Counts → ℕ → Bool
room_for c w = cond (eqb w 0) (ltb c.rules 512) (cond (eqb w 1) (ltb c.kinds 128) (cond (eqb w 2) (ltb c.rights 2048) false))

module _ (c : Counts) (l : Line) where
  pub room : {w : ℕ} → l.word ≡ w → room_for c w ≡ has_room c l
  unfolding has_room
  room e = ap (room_for c) (sym e)

  pub room_none : l.word ≢ 0 → l.word ≢ 1 → l.word ≢ 2 → false ≡ has_room c l
  unfolding has_room
  room_none a b d = λ i. cond (sym (ne_eqb l.word 0 a) i) (ltb c.rules 512) (cond (sym (ne_eqb l.word 1 b) i) (ltb c.kinds 128) (cond (sym (ne_eqb l.word 2 d) i) (ltb c.rights 2048) false))

  -- a line with room whose word is neither of the first two is a right
  pub is_right_lem : has_room c l ≡ true → l.word ≢ 0 → l.word ≢ 1 → l.word ≡ 2
  is_right_lem h a b = go (lt_or_ge l.word 3)
    where
      go : (l.word < 3) ⊎ (3 ≤ l.word) → l.word ≡ 2
      go (inl k) = omega (arith, k, a, b)
      go (inr k) = absurd (true≢false (sym h ∙ sym (room_none a b (λ e. omega arith))))

  pub rules-below : has_room c l ≡ true → l.word ≡ 0 → c.rules < 512
  rules-below h e = ltb-true c.rules 512 (room e ∙ h)

  pub kinds-below : has_room c l ≡ true → l.word ≡ 1 → c.kinds < 128
  kinds-below h e = ltb-true c.kinds 128 (room e ∙ h)

  pub rights-below : has_room c l ≡ true → l.word ≡ 2 → c.rights < 2048
  rights-below h e = ltb-true c.rights 2048 (room e ∙ h)

-- there is none for a record that is no line
pub room_unknown : (c : Counts) → has_room c unknown ≡ false
unfolding has_room
room_unknown c = refl

pub no_line : (c : Counts) (r : Option Read) (l : Line) → line_said r ≡ l → r ≡ None → has_room c l ≡ false
no_line c r l e n = ap (has_room c) (sym e ∙ ap line_said n) ∙ room_unknown c

-- a line of code with room whose word is neither of the first two is a right
pub is-right : (c : Counts) (l : Read) → has_room c (line_of_read l) ≡ true → (l.word ≡ Rule → ⊥) → (l.word ≡ Kind → ⊥) → number_of l.word ≡ 2
is-right c l h = go l.word (room c (line_of_read l) refl ∙ h)
  where
    go : (w : Named) → room_for c (number_of w) ≡ true → (w ≡ Rule → ⊥) → (w ≡ Kind → ⊥) → number_of w ≡ 2
    go Rule e a b = absurd (a refl)
    go Kind e a b = absurd (b refl)
    go Right e a b = refl
    go Activate e a b = absurd (true≢false (sym e))
    go Appoint e a b = absurd (true≢false (sym e))
    go Revoke e a b = absurd (true≢false (sym e))
    go Withdraw e a b = absurd (true≢false (sym e))
    go Env e a b = absurd (true≢false (sym e))
    go Logout e a b = absurd (true≢false (sym e))
    go Invoke e a b = absurd (true≢false (sym e))
    go Effective e a b = absurd (true≢false (sym e))

-- The machine while the policy is loaded: a row for which there is room is taken, and where none is, the program goes on as if an
-- event had come.
use Prim.Native.Nat.{ℕ, suc, ◌+◌, ◌*◌, ◌/◌, ◌≤◌, ◌<◌}
use mathlib.Core.Path.{◌≡◌, refl, sym, ap, ◌∙◌, subst⁻¹}
use mathlib.Core.Bool.{Bool, true, false, true≢false}
use mathlib.Core.Logic.{◌⊎◌, inl, inr}
use mathlib.Core.List.{List, [], ◌∷◌, map}
use native.Mathlib.Omega.{arith}
use native.Mathlib.Nat.{mul-div_cancel}
use native.Mathlib.Numerals.{add-one}
use lib.Dec.{leb}
use lib.ListN.{length, take, replicate}
use lib.Seq.{length-take-le}
use borrow.Author.Tests.{ltb-false, lt-leb, le-leb}
use Rattle.model.specs.Values.{Tables}
use Rattle.model.specs.Layout.{encode}
use Rattle.model.proofs.Tests.{lt_or_ge}
use Rattle.program.specs.Vocabulary.{word_of, numbered}
use Rattle.program.specs.Text.{is_quoted, unquoted}
use Rattle.program.specs.Lines.{Line, line_clauses, line_from, line_of}
use Rattle.program.specs.Program.{Machine, is_full, after_policy, after_event, step, steps, with_row, start}
use Rattle.program.proofs.Counted.{counted}
use Rattle.program.proofs.Steps.{bad_by, bad_is, came_or_not, bad_written, event_taken, policy-taken}
use Rattle.reader.specs.Reading.{record_at, line_at, next_at}
use Rattle.reader.proofs.Walking.{record_past, lines_from_lem, none_from, next-behind, next-within}
use Rattle.load.specs.Loading.{tables_of, has_room, running, lines_from, Loads}
use Rattle.load.specs.Filling.{tables_in, Fits}
use Rattle.load.specs.declared.Counts.{Counts}
use Rattle.load.specs.declared.Loaded.{Loaded}
use Rattle.load.specs.declared.Tables.{Tables as Filled}
use Rattle.load.proofs.Appending.{room, room_unknown, rules-below, kinds-below, rights-below, is_right_lem}

-- ── full, or not ──

-- a table of n rows of any width
module _ (most width : ℕ) (table : List ℕ) (n : ℕ) (wide : 0 < width) (size : n * width ≤ length table) where
  counted_rows : is_full most width (take (n * width) table) ≡ leb most n
  counted_rows = ap (λ (m : ℕ). leb most (m / width)) (length-take-le (n * width) table size) ∙ ap (leb most) (mul-div_cancel n wide)

  free : n < most → is_full most width (take (n * width) table) ≡ false
  free h = counted_rows ∙ lt-leb most n h

  full : most ≤ n → is_full most width (take (n * width) table) ≡ true
  full h = counted_rows ∙ le-leb most n h

-- ── loading ──

-- a machine that has taken records of the policy only
abbrev loading : Tables → ℕ → Machine
loading t taken = record { tables = t; state = replicate 1602 0; event_came = false; taken = taken; written = []; stopped = false }

module _ (rules kinds rights : List ℕ) (c : Counts) (size₁ : c.rules * 11 ≤ length rules) (size₂ : c.kinds * 7 ≤ length kinds) (size₃ : c.rights * 2 ≤ length rights) (l : Line) where
  abbrev full_rules : Bool
  full_rules = is_full 512 11 (take (c.rules * 11) rules)

  abbrev full_kinds : Bool
  full_kinds = is_full 128 7 (take (c.kinds * 7) kinds)

  abbrev full_rights : Bool
  full_rights = is_full 2048 2 (take (c.rights * 2) rights)

  -- with room for the line it is not bad, and it is of the policy
  room_good : has_room c l ≡ true → (bad_by l.word full_rules full_kinds full_rights false ≡ false) × (l.word < 3)
  room_good h = go (lt_or_ge l.word 1) (lt_or_ge l.word 2)
    where
      go : (l.word < 1) ⊎ (1 ≤ l.word) → (l.word < 2) ⊎ (2 ≤ l.word) → (bad_by l.word full_rules full_kinds full_rights false ≡ false) × (l.word < 3)
      go (inl a) b = let e : l.word ≡ 0 = omega arith in ((λ i. bad_by (e i) (free 512 11 rules c.rules (omega arith) size₁ (rules-below c l h e) i) full_kinds full_rights false), omega arith)
      go (inr a) (inl b) = let e : l.word ≡ 1 = omega arith in ((λ i. bad_by (e i) full_rules (free 128 7 kinds c.kinds (omega arith) size₂ (kinds-below c l h e) i) full_rights false), omega arith)
      go (inr a) (inr b) =
          let e : l.word ≡ 2 = is_right_lem c l h (λ z. omega arith) (λ z. omega arith) in
          ((λ i. bad_by (e i) full_rules full_kinds (free 2048 2 rights c.rights (omega arith) size₃ (rights-below c l h e) i) false), omega (arith, e))

  row-taken : (taken : ℕ) → has_room c l ≡ true → step (loading (tables_of rules kinds rights c) taken) l ≡ loading (with_row (tables_of rules kinds rights c) l) (suc taken)
  unfolding after_policy
  row-taken taken h = let g = room_good h in policy-taken (loading (tables_of rules kinds rights c) taken) l refl (bad_is (loading (tables_of rules kinds rights c) taken) l ∙ g.0) g.1

  -- without room for it, a line of the policy is bad, before an event and after it
  no_room : has_room c l ≡ false → l.word < 3 → (came : Bool) → bad_by l.word full_rules full_kinds full_rights came ≡ true
  no_room h k came = go (lt_or_ge l.word 1) (lt_or_ge l.word 2)
    where
      go : (l.word < 1) ⊎ (1 ≤ l.word) → (l.word < 2) ⊎ (2 ≤ l.word) → bad_by l.word full_rules full_kinds full_rights came ≡ true
      go (inl a) b = let e : l.word ≡ 0 = omega arith in λ i. bad_by (e i) (full 512 11 rules c.rules (omega arith) size₁ (ltb-false c.rules 512 (room c l e ∙ h)) i) full_kinds full_rights came
      go (inr a) (inl b) = let e : l.word ≡ 1 = omega arith in λ i. bad_by (e i) full_rules (full 128 7 kinds c.kinds (omega arith) size₂ (ltb-false c.kinds 128 (room c l e ∙ h)) i) full_rights came
      go (inr a) (inr b) = let e : l.word ≡ 2 = omega arith in λ i. bad_by (e i) full_rules full_kinds (full 2048 2 rights c.rights (omega arith) size₃ (ltb-false c.rights 2048 (room c l e ∙ h)) i) came

  -- so the program goes on as if an event had come
  events_begin : (taken : ℕ) (ls : List Line) → has_room c l ≡ false → (steps (loading (tables_of rules kinds rights c) taken) (l ∷ ls)).written ≡ (steps (running (tables_of rules kinds rights c) (replicate 1602 0) taken []) (l ∷ ls)).written
  unfolding after_event
  events_begin taken ls h = go (lt_or_ge l.word 3)
    where
      before : Machine
      before = loading (tables_of rules kinds rights c) taken

      after : Machine
      after = running (tables_of rules kinds rights c) (replicate 1602 0) taken []

      both : (b : Bool) → bad_by l.word full_rules full_kinds full_rights true ≡ b → 3 ≤ l.word → (steps before (l ∷ ls)).written ≡ (steps after (l ∷ ls)).written
      both true e k = bad_written before l ls refl (bad_is before l ∙ came_or_not l.word full_rules full_kinds full_rights k ∙ e) ∙ sym (bad_written after l ls refl (bad_is after l ∙ e))
      both false e k =
          ap (λ (x : Machine). (steps x ls).written) (event_taken before l refl (bad_is before l ∙ came_or_not l.word full_rules full_kinds full_rights k ∙ e) k)
          ∙ sym (ap (λ (x : Machine). (steps x ls).written) (event_taken after l refl (bad_is after l ∙ e) k))

      go : (l.word < 3) ⊎ (3 ≤ l.word) → (steps before (l ∷ ls)).written ≡ (steps after (l ∷ ls)).written
      go (inl k) = bad_written before l ls refl (bad_is before l ∙ no_room h k false) ∙ sym (bad_written after l ls refl (bad_is after l ∙ no_room h k true))
      go (inr k) = both (bad_by l.word full_rules full_kinds full_rights true) refl k

-- ── the fewest numbers of a record of the policy ──

two_numbers : (c : Counts) (bytes : List ℕ) → has_room c (line_of bytes) ≡ true → 2 ≤ (line_of bytes).count
two_numbers c bytes h = go (lt_or_ge (line_of bytes).word 1) (lt_or_ge (line_of bytes).word 2)
  where
    least : (w : ℕ) → (line_of bytes).word ≡ w → w < 11 → 2 ≤ (numbered w).least → 2 ≤ (line_of bytes).count
    least w e k m =
        let n : (numbered w).least ≡ (numbered (line_of bytes).word).least = ap (λ (x : ℕ). (numbered x).least) (sym e) in
        omega (arith, m, n, (counted bytes (omega (arith, e, k))).0)

    go : ((line_of bytes).word < 1) ⊎ (1 ≤ (line_of bytes).word) → ((line_of bytes).word < 2) ⊎ (2 ≤ (line_of bytes).word) → 2 ≤ (line_of bytes).count
    go (inl a) b = least 0 (omega arith) (omega arith) (omega arith)
    go (inr a) (inl b) = least 1 (omega arith) (omega arith) (omega arith)
    go (inr a) (inr b) = least 2 (is_right_lem c (line_of bytes) h (λ z. omega arith) (λ z. omega arith)) (omega arith) (omega arith)

-- ── the records of the policy, one after the other ──

-- before each record: no more records were taken than bytes, the tables have room for their most rows and no more than these, and the
-- program comes to what a machine comes to that has taken the rows so far and goes on from here
pub record Going (text : List ℕ) (at taken : ℕ) (t : Filled) : Type 0 where
  pub in_text : at ≤ length text
  pub few : taken ≤ at
  pub fits : Fits t
  pub so_far : steps start (lines_from text 0) ≡ steps (loading (tables_in t) taken) (lines_from text at)

pub going_starts : (text : List ℕ) (t : Filled) → Fits t → t.counts ≡ record { rules = 0; kinds = 0; rights = 0 } → Going text 0 0 t
unfolding encode
going_starts text t f e =
    record { in_text = omega arith; few = omega arith; fits = f; so_far = λ i. steps (loading (tables_of t.rules.now t.kinds.now t.rights.now (sym e i)) 0) (lines_from text 0) }

-- there is no room for a record where none begins
past-room : (c : Counts) (text : List ℕ) (at : ℕ) → length text ≤ at → has_room c (line_at text at) ≡ false
unfolding line_at line_of line_from line_clauses is_quoted unquoted word_of
past-room c text at h = ap (λ (bytes : List ℕ). has_room c (line_of bytes)) (sym (record_past text at h)) ∙ room_unknown c

module _ (text : List ℕ) (at taken : ℕ) (t : Filled) (g : Going text at taken t) where
  -- where there is room for a line, a record begins
  pub room_in : has_room t.counts (line_at text at) ≡ true → at < length text
  room_in h = go (lt_or_ge at (length text))
    where
      go : (at < length text) ⊎ (length text ≤ at) → at < length text
      go (inl k) = k
      go (inr k) = absurd (true≢false (sym h ∙ past-room t.counts text at k))

  abbrev size₁ : t.counts.rules * 11 ≤ length t.rules.now
  size₁ = omega (arith, g.fits.rules_room, g.fits.rules_size)

  abbrev size₂ : t.counts.kinds * 7 ≤ length t.kinds.now
  size₂ = omega (arith, g.fits.kinds_room, g.fits.kinds_size)

  abbrev size₃ : t.counts.rights * 2 ≤ length t.rights.now
  size₃ = omega (arith, g.fits.rights_room, g.fits.rights_size)

  -- a record with room is a row more
  pub going_on : (t' : Filled) (line : Line) (next : ℕ) → line ≡ line_at text at → next ≡ next_at text at → has_room t.counts line ≡ true → Fits t' → tables_in t' ≡ with_row (tables_in t) line → Going text next (taken + 1) t'
  going_on t' line next e f room fits rows =
      let here : has_room t.counts (line_at text at) ≡ true = ap (has_room t.counts) (sym e) ∙ room in
      let inside : at < length text = room_in here in
      record {
        in_text = omega (arith, f, next-within text at);
        few = omega (arith, f, g.few, next-behind text at inside);
        fits = fits;
        so_far =
            g.so_far
            ∙ ap (steps (loading (tables_in t) taken)) (lines_from_lem text at inside)
            ∙ ap (λ (m : Machine). steps m (lines_from text (next_at text at))) (row-taken t.rules.now t.kinds.now t.rights.now t.counts size₁ size₂ size₃ (line_at text at) taken here)
            ∙ (λ i. steps (loading (with_row (tables_in t) (sym e i)) (suc taken)) (lines_from text (sym f i)))
            ∙ (λ i. steps (loading (sym rows i) (sym (add-one taken) i)) (lines_from text next));
      }

  -- where there is no room, or no record, what is loaded is what a machine that an event has reached goes on from
  pub going_stops : has_room t.counts (line_at text at) ≡ false → Loads text t.rules.now t.kinds.now t.rights.now (record { at = at; taken = taken; counts = t.counts })
  going_stops none =
      record {
        in_text = g.in_text;
        few = g.few;
        rules_room = g.fits.rules_room;
        kinds_room = g.fits.kinds_room;
        rights_room = g.fits.rights_room;
        goes_on = ap (λ (m : Machine). m.written) g.so_far ∙ go (lt_or_ge at (length text));
      }
    where
      go : (at < length text) ⊎ (length text ≤ at) → (steps (loading (tables_in t) taken) (lines_from text at)).written ≡ (steps (running (tables_in t) (replicate 1602 0) taken []) (lines_from text at)).written
      go (inl h) =
          ap (λ (ls : List Line). (steps (loading (tables_in t) taken) ls).written) (lines_from_lem text at h)
          ∙ events_begin t.rules.now t.kinds.now t.rights.now t.counts size₁ size₂ size₃ (line_at text at) taken (lines_from text (next_at text at)) none
          ∙ ap (λ (ls : List Line). (steps (running (tables_in t) (replicate 1602 0) taken []) ls).written) (sym (lines_from_lem text at h))
      go (inr h) =
          ap (λ (rs : List (List ℕ)). (steps (loading (tables_in t) taken) (map line_of rs)).written) (none_from text at h)
          ∙ ap (λ (rs : List (List ℕ)). (steps (running (tables_in t) (replicate 1602 0) taken []) (map line_of rs)).written) (sym (none_from text at h))

pub same_loads : (text rules kinds rights : List ℕ) (r : Loaded) → Loads text rules kinds rights r → (rules' kinds' rights' : List ℕ) (r' : Loaded) → rules' ≡ rules → kinds' ≡ kinds → rights' ≡ rights → r' ≡ r → Loads text rules' kinds' rights' r'
same_loads text rules kinds rights r h rules' kinds' rights' r' a b d e = rw (a, b, d, e) h

pub counted_two : (c : Counts) (text : List ℕ) (at : ℕ) (line : Line) → line ≡ line_at text at → has_room c line ≡ true → 2 ≤ line.count
unfolding line_at
counted_two c text at line e h = subst⁻¹ (λ (l : Line). 2 ≤ l.count) e (two_numbers c (record_at text at) (ap (has_room c) (sym e) ∙ h))

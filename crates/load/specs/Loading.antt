-- The policy as it is loaded: the first rows of three tables that have room for the most, and whether there is room for one more.
use Rattle.std.specs.Prelude.{ℕ, ◌*◌, ◌≤◌, ◌≡◌, Bool, true, false, cond, List, [], map, eqb, ltb, length, take, drop, replicate}
use Rattle.model.specs.Limits.{most_rules, rule_width, most_kinds, kind_width, most_rights, right_width, state_size}
use Rattle.model.specs.Values.{Tables}
use Rattle.program.specs.Text.{records}
use Rattle.program.specs.Vocabulary.{rule_word, kind_word, right_word}
use Rattle.program.specs.Lines.{Line, line_of}
use Rattle.program.specs.Program.{Machine, start, steps}
use Rattle.load.specs.declared.Counts.{Counts}
use Rattle.load.specs.declared.Loaded.{Loaded}

-- the rows so far
abbrev pub tables_of : List ℕ → List ℕ → List ℕ → Counts → Tables
tables_of rules kinds rights c = record { rules = take (c.rules * rule_width) rules; kinds = take (c.kinds * kind_width) kinds; rights = take (c.rights * right_width) rights }

-- the line is a row of the policy, and its table is not full
unfoldable pub has_room : Counts → Line → Bool
has_room c l = cond (eqb l.word rule_word) (ltb c.rules most_rules) (cond (eqb l.word kind_word) (ltb c.kinds most_kinds) (cond (eqb l.word right_word) (ltb c.rights most_rights) false))

-- the lines from a place on
abbrev pub lines_from : List ℕ → ℕ → List Line
lines_from text at = map line_of (records (drop at text))

-- a machine that an event has reached and no bad record has stopped
abbrev pub running : Tables → List ℕ → ℕ → List ℕ → Machine
running t s taken written = record { tables = t; state = s; event_came = true; taken = taken; written = written; stopped = false }

-- what was loaded, and that the program goes on from there: the place is in the text, no more records were taken than bytes, no table
-- has too many rows, and what is written is what a machine with these tables and a fresh state writes from the place on
pub record Loads (text rules kinds rights : List ℕ) (r : Loaded) : Type 0 where
  pub in_text : r.at ≤ length text
  pub few : r.taken ≤ r.at
  pub rules_room : r.counts.rules ≤ most_rules
  pub kinds_room : r.counts.kinds ≤ most_kinds
  pub rights_room : r.counts.rights ≤ most_rights
  pub goes_on : (steps start (lines_from text 0)).written ≡ (steps (running (tables_of rules kinds rights r.counts) (replicate state_size 0) r.taken []) (lines_from text r.at)).written

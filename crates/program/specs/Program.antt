-- The program: from the bytes of its input to the bytes of its output. A machine takes one line after the other. "The program".
use Rattle.std.specs.Prelude.{ℕ, suc, ◌-◌, ◌/◌, Bool, true, false, ◌&&◌, cond, List, [], ◌∷◌, ◌++◌, map, eqb, ltb, leb, length, get_or, take, drop}
use Rattle.model.specs.Lists.{any}
use Rattle.model.specs.Limits.{most_rules, rule_width, most_kinds, kind_width, most_prerequisites, most_rights, right_width}
use Rattle.model.specs.Values.{Tables}
use Rattle.model.specs.Layout.{encode, number}
use Rattle.model.specs.Outcome.{Outcome}
use Rattle.model.specs.Calls.{Call, fresh, activate, appoint, revoke, withdraw, environment, logout, invoke, effective, nothing, answer}
use Rattle.program.specs.Text.{ascii, comma, cr, lf, records, decimal}
use Rattle.program.specs.Vocabulary.{rule_word, kind_word, right_word, policy_words}
use Rattle.program.specs.Lines.{Line, is_unknown, line_of}

-- the policy and the state so far, whether an event has come, how many records have been taken, what is written, and whether a bad
-- record has stopped it
pub record Machine : Type 0 where
  pub tables : Tables
  pub state : List ℕ
  pub event_came : Bool
  pub taken : ℕ
  pub written : List ℕ
  pub stopped : Bool

-- "It begins with a fresh state"
abbrev pub start : Machine
start = record { tables = record { rules = []; kinds = []; rights = [] }; state = encode nothing; event_came = false; taken = 0; written = []; stopped = false }

-- "Each record written ends in CRLF"
abbrev pub ended : List ℕ → List ℕ
ended bytes = bytes ++ (cr ∷ lf ∷ [])

-- "one record `code,second` for each event"
abbrev pub answer_record : ℕ → ℕ → List ℕ
answer_record code second = ended (decimal code ++ (comma ∷ decimal second))

-- "`bad,` and the record's number"
abbrev pub bad_record : ℕ → List ℕ
bad_record n = ended (ascii "bad," ++ decimal n)

abbrev pub is_policy : Line → Bool
is_policy l = ltb l.word policy_words

-- the row of a rule: "target role, n, m, then eight conditions", where n is how many the record has
abbrev pub rule_row : Line → List ℕ
rule_row l = number l.numbers 0 ∷ (l.count - 2) ∷ number l.numbers 1 ∷ drop 2 l.numbers

-- the row of a kind: "appointer role, mode, s, then four prerequisite roles", where s is how many the record has
abbrev pub kind_row : Line → List ℕ
kind_row l = number l.numbers 0 ∷ number l.numbers 1 ∷ (l.count - 2) ∷ take most_prerequisites (drop 2 l.numbers)

-- the row of a right: "role, privilege"
abbrev pub right_row : Line → List ℕ
right_row l = take right_width l.numbers

-- a line of the policy is one row more of its table
unfoldable pub with_row : Tables → Line → Tables
with_row t l =
    record {
      rules = cond (eqb l.word rule_word) (t.rules ++ rule_row l) t.rules;
      kinds = cond (eqb l.word kind_word) (t.kinds ++ kind_row l) t.kinds;
      rights = cond (eqb l.word right_word) (t.rights ++ right_row l) t.rights;
    }

-- the calls that events make of a line's numbers, in the words' order
abbrev pub event_calls : Line → List Call
event_calls l =
    let a = number l.numbers 0 in
    let b = number l.numbers 1 in
    let c = number l.numbers 2 in
    let d = number l.numbers 3 in
    activate a b ∷ appoint a b c ∷ revoke a b c d ∷ withdraw a b c ∷ environment a b ∷ logout a ∷ invoke a b ∷ effective a b c ∷ []

-- the call that an event makes; a line of the policy makes none, and is not asked for one
unfoldable pub line_call : Line → Call
line_call l = get_or (event_calls l) (l.word - policy_words) fresh

-- the table has its most rows
abbrev pub is_full : ℕ → ℕ → List ℕ → Bool
is_full most width table = leb most (length table / width)

-- the ways to be bad: a line that is unknown, "a row past a table's limit, or a policy record after an event"
unfoldable pub bad_ways : Machine → Line → List Bool
bad_ways m l =
    is_unknown l
    ∷ (eqb l.word rule_word && is_full most_rules rule_width m.tables.rules)
    ∷ (eqb l.word kind_word && is_full most_kinds kind_width m.tables.kinds)
    ∷ (eqb l.word right_word && is_full most_rights right_width m.tables.rights)
    ∷ (is_policy l && m.event_came)
    ∷ []

abbrev pub is_bad : Machine → Line → Bool
is_bad m l = any (λ (way : Bool). way) (bad_ways m l)

-- "makes the program write `bad,` and the record's number from 1, and stop"
unfoldable pub after_bad : Machine → Machine
after_bad m = record { tables = m.tables; state = m.state; event_came = m.event_came; taken = suc m.taken; written = m.written ++ bad_record (suc m.taken); stopped = true }

unfoldable pub after_policy : Machine → Line → Machine
after_policy m l = record { tables = with_row m.tables l; state = m.state; event_came = m.event_came; taken = suc m.taken; written = m.written; stopped = m.stopped }

unfoldable pub after_event : Machine → Outcome → Machine
after_event m o = record { tables = m.tables; state = o.state; event_came = true; taken = suc m.taken; written = m.written ++ answer_record o.code o.second; stopped = m.stopped }

unfoldable pub step : Machine → Line → Machine
step m l =
    cond m.stopped m
    (cond (is_bad m l) (after_bad m)
    (cond (is_policy l) (after_policy m l)
    (after_event m (answer m.tables m.state [] (line_call l)))))

abbrev pub steps : Machine → List Line → Machine
steps m [] = m
steps m (l ∷ ls) = steps (step m l) ls

-- "at most 65,536 bytes"; "Longer input writes `bad,0` only. Empty input writes nothing."
abbrev pub most_bytes : ℕ
most_bytes = 65536

unfoldable pub program : List ℕ → List ℕ
program text = cond (ltb most_bytes (length text)) (bad_record 0) (steps start (map line_of (records text))).written

-- The program's own cases as one table under one statement, which holds by computation: the session of the outline, and small
-- texts at the edges of the format. The wanted outputs are worked out from the outline.
use mathlib.Core.Path.{◌≡◌, refl}
use mathlib.Core.Bool.{Bool, true, false, not}
use mathlib.Core.List.{List, [], ◌∷◌, ◌++◌}
use Prim.Native.Nat.{ℕ, ◌+◌, ◌*◌}
use Prim.Native.String.{String}
use lib.ListN.{replicate}
use Rattle.model.specs.Lists.{every, all, joined}
use Rattle.model.specs.Layout.{policy_of, decode, encode}
use Rattle.model.specs.Conditions.{meant, active, some_stands, holds, satisfied, supported, roles_asked, rests_on}
use Rattle.model.specs.Left.{left}
use Rattle.model.specs.Sound.{condition_fits, rule_clauses, kind_clauses, right_clauses, policy_clauses, row_clauses, certificate_clauses, form_clauses, sound_values, sound}
use Rattle.model.specs.Effective.{direct, effectively}
use Rattle.model.specs.Outcome.{judged_first, decided}
use Rattle.model.specs.Calls.{settled, activate_on, appoint_on, revoke_on, withdraw_on, environment_on, logout_on, allowed, invoke_on, effective_on, chain_on, fresh_on, course_of, answer}
use Rattle.program.specs.Text.{ascii, decimal, is_quoted, unquoted, is_number}
use Rattle.program.specs.Vocabulary.{same, word_of}
use Rattle.program.specs.Lines.{line_clauses, line_from, line_of}
use Rattle.program.specs.Program.{Machine, is_bad, with_row, line_call, bad_ways, after_bad, after_policy, after_event, step, program}

-- an input and the output that is wanted of it, as bytes
record Case : Type 0 where
  input : List ℕ
  output : List ℕ

infix 10 ◌writes◌
abbrev ◌writes◌ : String → String → Case
input writes output = record { input = ascii input; output = ascii output }

abbrev goes_right : Case → Bool
goes_right x = same (program x.input) x.output

-- one record a line, each with its CRLF
abbrev lines : List String → List ℕ
lines texts = joined (λ (text : String). ascii text ++ ascii "\r\n") texts

-- "Input, one record a line", and "Output, whole"
session : List Case
session =
    record {
      input =
          lines
          ("rule,1,0"
          ∷ "rule,2,2,1,256"
          ∷ "rule,3,1,2,384"
          ∷ "rule,4,0"
          ∷ "kind,4,0"
          ∷ "right,3,7"
          ∷ "activate,10,4"
          ∷ "activate,20,1"
          ∷ "activate,20,2"
          ∷ "appoint,10,20,0"
          ∷ "activate,20,2"
          ∷ "activate,20,3"
          ∷ "env,0,1"
          ∷ "activate,20,3"
          ∷ "env,0,0"
          ∷ "invoke,20,7"
          ∷ "revoke,10,20,0,10"
          ∷ "invoke,20,7"
          ∷ "logout,20"
          ∷ []);
      output = lines ("0,3" ∷ "0,0" ∷ "5,0" ∷ "0,0" ∷ "0,1" ∷ "5,0" ∷ "0,0" ∷ "0,2" ∷ "0,0" ∷ "0,1" ∷ "0,2" ∷ "0,0" ∷ "0,1" ∷ []);
    }
    ∷ []

-- the two event words that the session has not, each argument another number: user 5 appoints user 8, and role 2 falls with the
-- certificate
events : List Case
events =
    record {
      input =
          lines
          ("rule,1,0"
          ∷ "kind,1,0"
          ∷ "rule,2,1,256"
          ∷ "right,2,7"
          ∷ "activate,5,1"
          ∷ "appoint,5,8,0"
          ∷ "activate,8,2"
          ∷ "effective,8,2,7"
          ∷ "effective,8,2,9"
          ∷ "effective,5,2,7"
          ∷ "withdraw,5,0,8"
          ∷ "withdraw,8,0,5"
          ∷ "effective,8,2,7"
          ∷ []);
      output = lines ("0,0" ∷ "0,0" ∷ "0,1" ∷ "0,1" ∷ "0,0" ∷ "12,0" ∷ "9,0" ∷ "0,1" ∷ "12,0" ∷ []);
    }
    ∷ []

-- "Records end in CRLF, which the last may lack."; "a CR or LF outside a CRLF, an empty record"; "Empty input writes nothing."
records_cut : List Case
records_cut =
    ("" writes "")
    ∷ ("logout,1\r\n" writes "0,0\r\n")
    ∷ ("logout,1" writes "0,0\r\n")
    ∷ ("logout,1\r\nlogout,2" writes "0,0\r\n0,0\r\n")
    ∷ ("\r\n" writes "bad,1\r\n")
    ∷ ("logout,1\r\n\r\n" writes "0,0\r\nbad,2\r\n")
    ∷ ("logout,1\n" writes "bad,1\r\n")
    ∷ ("logout,1\r" writes "bad,1\r\n")
    ∷ ("logout,1\rlogout,2\r\n" writes "bad,1\r\n")
    ∷ ("logout,1\r\r\n" writes "bad,1\r\n")
    ∷ ("logout,1\r\n\n" writes "0,0\r\nbad,2\r\n")
    ∷ []

-- "a whole field may be quoted, but only what could stand there unquoted may stand between the quotes"
quoting : List Case
quoting =
    ("\"logout\",\"1\"\r\n" writes "0,0\r\n")
    ∷ ("logout,\"\"" writes "bad,1\r\n")
    ∷ ("logout,\"" writes "bad,1\r\n")
    ∷ ("logout,\"12" writes "bad,1\r\n")
    ∷ ("logout,12\"" writes "bad,1\r\n")
    ∷ ("logout,\"\"1\"\"" writes "bad,1\r\n")
    ∷ ("logout,1\"2\"" writes "bad,1\r\n")
    ∷ ("env,\"0,1\"" writes "bad,1\r\n")
    ∷ ("\"env,0\",1" writes "bad,1\r\n")
    ∷ ("logout,\"1\r\n\"" writes "bad,1\r\n")
    ∷ []

-- "Numbers are decimal, 0 to 65,535, with no leading zero". User 65,535 is a number, and out of range
numbers : List Case
numbers =
    ("logout,0" writes "0,0\r\n")
    ∷ ("logout,00" writes "bad,1\r\n")
    ∷ ("logout,01" writes "bad,1\r\n")
    ∷ ("logout,4095" writes "0,0\r\n")
    ∷ ("logout,65535" writes "3,0\r\n")
    ∷ ("logout,65536" writes "bad,1\r\n")
    ∷ ("logout,100000" writes "bad,1\r\n")
    ∷ ("logout,+1" writes "bad,1\r\n")
    ∷ ("logout,-1" writes "bad,1\r\n")
    ∷ ("logout, 1" writes "bad,1\r\n")
    ∷ ("logout,1 " writes "bad,1\r\n")
    ∷ ("logout,a" writes "bad,1\r\n")
    ∷ ("logout,1/" writes "bad,1\r\n")
    ∷ ("logout,:" writes "bad,1\r\n")
    ∷ []

-- "An unknown word, a wrong field count": a rule has at most eight conditions and a kind at most four prerequisites
words_and_counts : List Case
words_and_counts =
    ("x" writes "bad,1\r\n")
    ∷ ("logou,1" writes "bad,1\r\n")
    ∷ ("logouts,1" writes "bad,1\r\n")
    ∷ ("Logout,1" writes "bad,1\r\n")
    ∷ ("logout" writes "bad,1\r\n")
    ∷ ("logout,1,2" writes "bad,1\r\n")
    ∷ ("logout,1," writes "bad,1\r\n")
    ∷ ("rule,1" writes "bad,1\r\n")
    ∷ ("rule,1,0,1,2,3,4,5,6,7,8" writes "")
    ∷ ("rule,1,0,1,2,3,4,5,6,7,8,9" writes "bad,1\r\n")
    ∷ ("kind,1,0,1,2,3,4" writes "")
    ∷ ("kind,1,0,1,2,3,4,5" writes "bad,1\r\n")
    ∷ ("right,1" writes "bad,1\r\n")
    ∷ ("right,1,2,3" writes "bad,1\r\n")
    ∷ ("activate,1" writes "bad,1\r\n")
    ∷ ("appoint,1,2" writes "bad,1\r\n")
    ∷ ("revoke,1,2,3" writes "bad,1\r\n")
    ∷ ("withdraw,1,2" writes "bad,1\r\n")
    ∷ ("env,0" writes "bad,1\r\n")
    ∷ ("invoke,1" writes "bad,1\r\n")
    ∷ ("effective,1,2" writes "bad,1\r\n")
    ∷ []

-- "a policy record after an event" is bad; "With any other malformed row each event answers `1,0`", also where a bad record comes
-- later; a rule may name a kind that is declared after it
policies : List Case
policies =
    ("logout,1\r\nrule,1,0\r\nlogout,1" writes "0,0\r\nbad,2\r\n")
    ∷ ("rule,256,0" writes "")
    ∷ ("rule,256,0\r\nlogout,1\r\nenv,0,1\r\nx\r\nlogout,1" writes "1,0\r\n1,0\r\nbad,4\r\n")
    ∷ ("rule,1,1\r\nlogout,1" writes "1,0\r\n")
    ∷ ("kind,1,3\r\nlogout,1" writes "1,0\r\n")
    ∷ ("rule,1,0,256\r\nlogout,1" writes "1,0\r\n")
    ∷ ("rule,1,0,256\r\nkind,1,0\r\nlogout,1" writes "0,0\r\n")
    ∷ []

-- "a row past a table's limit": the 129th kind. "Longer input writes `bad,0` only."
limits : List Case
limits =
    record { input = kinds 128 ++ ascii "logout,1"; output = ascii "0,0\r\n" }
    ∷ record { input = kinds 129 ++ ascii "logout,1"; output = ascii "bad,129\r\n" }
    ∷ record { input = ascii "logout,1\r\n" ++ replicate 65526 120; output = ascii "0,0\r\nbad,2\r\n" }
    ∷ record { input = ascii "logout,1\r\n" ++ replicate 65527 120; output = ascii "bad,0\r\n" }
    ∷ []
  where
    kinds : ℕ → List ℕ
    kinds times = joined ascii (replicate times "kind,1,0\r\n")

table : List (List Case)
table = session ∷ events ∷ records_cut ∷ quoting ∷ numbers ∷ words_and_counts ∷ policies ∷ limits ∷ []

cases : all (all goes_right) table ≡ true
unfolding table session events records_cut quoting numbers words_and_counts policies limits policy_of decode encode meant active some_stands holds satisfied supported roles_asked rests_on left condition_fits rule_clauses kind_clauses right_clauses policy_clauses row_clauses certificate_clauses form_clauses sound_values sound direct effectively judged_first decided settled activate_on appoint_on revoke_on withdraw_on environment_on logout_on allowed invoke_on effective_on chain_on fresh_on course_of answer is_quoted unquoted is_number word_of line_clauses line_from line_of with_row line_call bad_ways after_bad after_policy after_event step program
cases = refl

-- a machine that has taken so many rows of zeros into its rules and its rights
abbrev holding : ℕ → ℕ → Machine
holding rules rights =
    record {
      tables = record { rules = replicate (rules * 11) 0; kinds = []; rights = replicate (rights * 2) 0 };
      state = [];
      event_came = false;
      taken = rules + rights;
      written = [];
      stopped = false;
    }

abbrev bad_after : ℕ → ℕ → String → Bool
bad_after rules rights text = is_bad (holding rules rights) (line_of (ascii text))

-- the 513th rule and the 2,049th right, whatever the other tables hold
full_tables :
    every
    (not (bad_after 511 2048 "rule,1,0")
    ∷ bad_after 512 2047 "rule,1,0"
    ∷ not (bad_after 512 2047 "right,1,0")
    ∷ bad_after 511 2048 "right,1,0"
    ∷ not (bad_after 512 2048 "kind,1,0")
    ∷ [])
    ≡ true
unfolding is_quoted unquoted is_number word_of line_clauses line_from line_of bad_ways
full_tables = refl

-- numbers as they are written
written-numbers :
    every
    (same (decimal 0) (ascii "0")
    ∷ same (decimal 9) (ascii "9")
    ∷ same (decimal 10) (ascii "10")
    ∷ same (decimal 109) (ascii "109")
    ∷ same (decimal 65535) (ascii "65535")
    ∷ [])
    ≡ true
written-numbers = refl

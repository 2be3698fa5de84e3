-- What code has read of a record, as a line: its word by the word's number. What code finds to be no line is the unknown one.
use Rattle.std.specs.Prelude.{ℕ, Option, Some, None}
use Rattle.program.specs.Vocabulary.{words}
use Rattle.program.specs.Lines.{Line, unknown}
use Rattle.program.specs.declared.Line.{Line as Read}
use Rattle.program.specs.declared.Word.{Word as Named}
use Rattle.program.specs.declared.Word.TheVariants.{Rule, Kind, Right, Activate, Appoint, Revoke, Withdraw, Env, Logout, Invoke, Effective}

-- "Eleven words open a record", in the vocabulary's order
abbrev pub number_of : Named → ℕ
number_of Rule = 0
number_of Kind = 1
number_of Right = 2
number_of Activate = 3
number_of Appoint = 4
number_of Revoke = 5
number_of Withdraw = 6
number_of Env = 7
number_of Logout = 8
number_of Invoke = 9
number_of Effective = 10

-- the number of the word, and the number past the last where there is none
abbrev pub word_said : Option Named → ℕ
word_said (Some word) = number_of word
word_said None = words

abbrev pub line_of_read : Read → Line
line_of_read l = record { word = number_of l.word; count = l.count; numbers = l.numbers }

abbrev pub line_said : Option Read → Line
line_said (Some l) = line_of_read l
line_said None = unknown

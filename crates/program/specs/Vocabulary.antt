-- "Eleven words open a record, each with its own field count".
use Rattle.std.specs.Prelude.{ℕ, Bool, true, false, ◌&&◌, List, [], ◌∷◌, eqb, get_or}
use Prim.Native.String.{String}
use Rattle.model.specs.Lists.{first_place}
use Rattle.program.specs.Text.{ascii}

-- the letters of a word, and the least and the greatest number of fields behind it
pub record Word : Type 0 where
  pub letters : List ℕ
  pub least : ℕ
  pub greatest : ℕ

infix 10 ◌with◌to◌
abbrev pub ◌with◌to◌ : String → ℕ → ℕ → Word
letters with least to greatest = record { letters = ascii letters; least = least; greatest = greatest }

-- "`rule,target,m,conditions` (0 to 8), `kind,appointer role,mode,prerequisites` (0 to 4), `right,role,privilege`; then events
-- `activate,user,role`; `appoint,appointer,appointee,kind`; `revoke,caller,appointee,kind,appointer`;
-- `withdraw,appointee,kind,appointer`; `env,fact,value`; `logout,user`; `invoke,user,privilege`; `effective,user,role,privilege`."
-- A word's number is its place, from 0
abbrev pub vocabulary : List Word
vocabulary =
    ("rule" with 2 to 10)
    ∷ ("kind" with 2 to 6)
    ∷ ("right" with 2 to 2)
    ∷ ("activate" with 2 to 2)
    ∷ ("appoint" with 3 to 3)
    ∷ ("revoke" with 4 to 4)
    ∷ ("withdraw" with 3 to 3)
    ∷ ("env" with 2 to 2)
    ∷ ("logout" with 1 to 1)
    ∷ ("invoke" with 2 to 2)
    ∷ ("effective" with 3 to 3)
    ∷ []

abbrev pub words : ℕ
words = 11

-- the first three state the policy; "then events"
abbrev pub rule_word : ℕ
rule_word = 0

abbrev pub kind_word : ℕ
kind_word = 1

abbrev pub right_word : ℕ
right_word = 2

abbrev pub policy_words : ℕ
policy_words = 3

abbrev pub same : List ℕ → List ℕ → Bool
same [] [] = true
same [] (b ∷ ys) = false
same (a ∷ xs) [] = false
same (a ∷ xs) (b ∷ ys) = let later = same xs ys in eqb a b && later

-- the number of the word that the field says; where it says none, the number past the last
unfoldable pub word_of : List ℕ → ℕ
word_of field = first_place (λ (w : Word). same field w.letters) vocabulary

-- the word of a number
abbrev pub numbered : ℕ → Word
numbered word = get_or vocabulary word ("" with 0 to 0)

-- How long a record is that says an event.
use Prim.Native.Nat.{ℕ, suc, ◌+◌, ◌-◌, ◌*◌, ◌<◌, ◌≤◌}
use mathlib.Core.Path.{◌≡◌, refl, sym, ap, ◌∙◌}
use mathlib.Core.Bool.{Bool, true, false, cond}
use mathlib.Core.List.{List, [], ◌∷◌, map}
use native.Mathlib.Omega.{arith}
use borrow.Author.Tests.{ltb-true, leb-true}
use lib.Dec.{T, eqb, ltb, leb}
use lib.ListN.{length, get_or, take, drop, length-take}
use lib.Seq.{get_or-drop}
use Rattle.model.specs.Lists.{every, any, all, filled_to}
use Rattle.model.proofs.Tests.{is_true, of_true, and_left, and_right, each, all_of, at_place, first-place, found-any}
use Rattle.program.specs.Text.{before, fields, is_quoted, unquoted, said, is_number, value_of}
use Rattle.program.specs.Vocabulary.{Word, vocabulary, words, policy_words, same, word_of, numbered, ◌with◌to◌}
use Rattle.program.specs.Lines.{Line, most_numbers, unknown, line_clauses, line_from, line_of_fields, line_of}

-- the fields' bytes, and one for each field: the comma behind it, or the record's end
abbrev extent : List (List ℕ) → ℕ
extent [] = 0
extent (f ∷ fs) = suc (length f) + extent fs

extent_before : (b : ℕ) (fs : List (List ℕ)) → 0 < extent fs → extent (before b fs) ≡ suc (extent fs)
extent_before b [] h = absurd (omega arith)
extent_before b (f ∷ fs) h = omega arith

extent_fields : (bytes : List ℕ) → extent (fields bytes) ≡ suc (length bytes)
extent_fields [] = refl
extent_fields (b ∷ bytes) = go (eqb b 44) (extent_fields bytes)
  where
    go : (x : Bool) → extent (fields bytes) ≡ suc (length bytes) → extent (cond x ([] ∷ fields bytes) (before b (fields bytes))) ≡ suc (suc (length bytes))
    go true e = omega (arith, e)
    go false e = let p = extent_before b (fields bytes) (omega (arith, e)) in omega (arith, e, p)

unquoted-within : (f : List ℕ) → length (unquoted f) ≤ length f
unfolding unquoted
unquoted-within f = go (is_quoted f)
  where
    go : (x : Bool) → length (cond x (take (length f - 2) (drop 1 f)) f) ≤ length f
    go true = let l = length-take (length f - 2) (drop 1 f) in omega (arith, l)
    go false = omega arith

extent_said : (fs : List (List ℕ)) → extent (map unquoted fs) ≤ extent fs
extent_said [] = omega arith
extent_said (f ∷ fs) = let l = extent_said fs in let k = unquoted-within f in omega (arith, l, k)

number_some : (f : List ℕ) → T (is_number f) → 0 < length f
unfolding is_number
number_some f t = ltb-true 0 (length f) (is_true (ltb 0 (length f)) (and_left (ltb 0 (length f)) _ t))

extent_numbers : (fs : List (List ℕ)) → T (all is_number fs) → 2 * length fs ≤ extent fs
extent_numbers [] t = omega arith
extent_numbers (f ∷ fs) t =
    let l = extent_numbers fs (and_right (is_number f) (all is_number fs) t) in
    let k = number_some f (and_left (is_number f) (all is_number fs) t) in
    omega (arith, l, k)

same_length : (f w : List ℕ) → T (same f w) → length f ≡ length w
same_length [] [] t = refl
same_length [] (b ∷ w) t = absurd t
same_length (a ∷ f) [] t = absurd t
same_length (a ∷ f) (b ∷ w) t = ap suc (same_length f w (and_right (eqb a b) (same f w) t))

-- the letters of an event's word, and two bytes for each number that it must have
abbrev seven_at_least : Word → Bool
seven_at_least w = leb 7 (length w.letters + 2 * w.least)

event_word : (word : ℕ) → policy_words ≤ word → word < words → 7 ≤ length (numbered word).letters + 2 * (numbered word).least
event_word word h l =
    let i : policy_words + (word - policy_words) ≡ word = omega arith in
    let e : get_or (drop policy_words vocabulary) (word - policy_words) none ≡ numbered word = get_or-drop policy_words vocabulary (word - policy_words) none ∙ ap numbered i in
    leb-true 7 _ (ap seven_at_least (sym e) ∙ is_true _ (all_of seven_at_least (drop policy_words vocabulary) tt _ (at_place (drop policy_words vocabulary) (word - policy_words) none (omega arith))))
  where
    none : Word
    none = "" with 0 to 0

-- a field that says the word is as long as the word
word-length : (f : List ℕ) → word_of f < words → length f ≡ length (numbered (word_of f)).letters
unfolding word_of
word-length f h = same_length f _ (first-place says vocabulary ("" with 0 to 0) (of_true (any says vocabulary) (found-any says vocabulary h))).1
  where
    says : Word → Bool
    says w = same f w.letters

-- what the fields of a line that is an event take up
event_extent : (fs : List (List ℕ)) → policy_words ≤ (line_of_fields fs).word → (line_of_fields fs).word < words → 8 ≤ extent fs
unfolding line_from line_clauses
event_extent [] h l = absurd (omega arith)
event_extent (first ∷ arguments) h l = go (every (line_clauses word arguments)) refl h l
  where
    word : ℕ
    word = word_of first

    line : Line
    line = record { word = word; count = length arguments; numbers = filled_to most_numbers (map value_of arguments) }

    known : T (every (line_clauses word arguments)) → policy_words ≤ word → word < words → 8 ≤ extent (first ∷ arguments)
    known t p q =
        let clauses = each (line_clauses word arguments) t in
        let letters = word-length first q in
        let numbers = extent_numbers arguments clauses.1.1.1.0 in
        let enough = leb-true (numbered word).least (length arguments) (is_true _ clauses.1.0) in
        let seven = event_word word p q in
        omega (arith, letters, numbers, enough, seven)

    go : (b : Bool) → every (line_clauses word arguments) ≡ b → policy_words ≤ (cond b line unknown).word → (cond b line unknown).word < words → 8 ≤ extent (first ∷ arguments)
    go true e p q = known (of_true _ e) p q
    go false e p q = absurd (omega arith)

-- an event's record has at least seven bytes, those of `env,0,0`
pub event_length : (bytes : List ℕ) → policy_words ≤ (line_of bytes).word → (line_of bytes).word < words → 7 ≤ length bytes
unfolding line_of
event_length bytes h l =
    let e = event_extent (said bytes) h l in
    let s = extent_said (fields bytes) in
    let f = extent_fields bytes in
    omega (arith, e, s, f)

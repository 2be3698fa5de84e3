-- The fields behind a word, read one after the other into the numbers of a line: what is known after each, and which line it makes.
use Prim.Native.Nat.{ℕ, suc, ◌+◌, ◌-◌, ◌<◌, ◌≤◌}
use mathlib.Core.Path.{◌≡◌, refl, sym, ap, ◌∙◌, subst}
use mathlib.Core.Bool.{Bool, true, false, ◌&&◌, cond, and-true, and_assoc}
use mathlib.Core.List.{List, [], ◌∷◌, ◌++◌, map, map-append, append_assoc, append-nil}
use native.Mathlib.Omega.{arith}
use borrow.Author.Tests.{lt-ltb, le-ltb, lt-leb}
use lib.Dec.{ltb, leb}
use lib.ListN.{length, drop, set, replicate, length-append, length-map}
use lib.Seq.{set-append_seam}
use Rattle.model.specs.Lists.{every, all, filled_to}
use Rattle.model.proofs.Tests.{all_append}
use Rattle.program.specs.Text.{unquoted, is_number, value_of}
use Rattle.program.specs.Vocabulary.{words, word_of, numbered}
use Rattle.program.specs.Lines.{Line, most_numbers, unknown, line_clauses, line_from, line_of_fields, line_of}
use Rattle.text.specs.Places.{part, field_end, fields_after, said_behind, number_of}
use Rattle.std.specs.Prelude.{Some, None}
use Rattle.text.proofs.Ends.{fields-next, said-next, said_end}
use Rattle.text.proofs.Counts.{greatest-within}

-- of the fields, those before `rest` are numbers, `count` of them, and stand in `numbers`
pub record Taken (fields rest : List (List ℕ)) (count : ℕ) (numbers : List ℕ) : Type 0 where
  pub read : List (List ℕ)
  pub whole : read ++ rest ≡ fields
  pub good : all is_number read ≡ true
  pub counted : length read ≡ count
  pub kept : numbers ≡ filled_to most_numbers (map value_of read)

-- what a field's number says of the field
is_number_lem : (f : List ℕ) (v : ℕ) → number_of f ≡ Some v → (is_number f ≡ true) × (value_of f ≡ v)
unfolding number_of
is_number_lem f v e = go (is_number f) refl e
  where
    go : (b : Bool) → is_number f ≡ b → cond b (Some (value_of f)) None ≡ Some v → (is_number f ≡ true) × (value_of f ≡ v)
    go true p q = (p, (cc))
    go false p q = absurd (let z : ◌≡◌ {A = ℕ} 0 1 = cc in omega arith)

is_not : (f : List ℕ) → number_of f ≡ None → is_number f ≡ false
unfolding number_of
is_not f e = go (is_number f) refl e
  where
    go : (b : Bool) → is_number f ≡ b → cond b (Some (value_of f)) None ≡ None → is_number f ≡ false
    go true p q = absurd (let z : ◌≡◌ {A = ℕ} 0 1 = cc in omega arith)
    go false p q = p

-- one number more at the place behind those that stand
filled_more : (xs : List ℕ) (v : ℕ) → length xs < most_numbers → set (filled_to most_numbers xs) (length xs) v ≡ filled_to most_numbers (xs ++ (v ∷ []))
filled_more xs v h =
    let n : ℕ = most_numbers - suc (length xs) in
    let p : most_numbers - length xs ≡ suc n = omega arith in
    let q : n ≡ most_numbers - length (xs ++ (v ∷ [])) = omega (arith, length-append xs (v ∷ [])) in
    ap (λ (k : ℕ). set (xs ++ replicate k 0) (length xs) v) p
    ∙ set-append_seam xs 0 (replicate n 0) v
    ∙ sym (append_assoc xs (v ∷ []) (replicate n 0))
    ∙ ap (λ (k : ℕ). (xs ++ (v ∷ [])) ++ replicate k 0) q

module _ (fields : List (List ℕ)) (f : List ℕ) (later : List (List ℕ)) (count : ℕ) (numbers : List ℕ) (t : Taken fields (f ∷ later) count numbers) where
  taken_more : (v : ℕ) → count < most_numbers → number_of f ≡ Some v → Taken fields later (count + 1) (set numbers count v)
  taken_more v h e =
      let done : List (List ℕ) = t.read in
      let size : length (map value_of done) ≡ count = length-map done value_of ∙ t.counted in
      let fill : set (filled_to most_numbers (map value_of done)) count v ≡ filled_to most_numbers (map value_of done ++ (v ∷ [])) =
      ap (λ (k : ℕ). set (filled_to most_numbers (map value_of done)) k v) (sym size) ∙ filled_more (map value_of done) v (omega arith) in
      record {
        read = done ++ (f ∷ []);
        whole = append_assoc done (f ∷ []) later ∙ t.whole;
        good = all_append is_number done (f ∷ []) ∙ (λ i. t.good i && ((is_number_lem f v e).0 i && true));
        counted = length-append done (f ∷ []) ∙ ap (λ (k : ℕ). k + 1) t.counted;
        kept =
            ap (λ (l : List ℕ). set l count v) t.kept
            ∙ fill
            ∙ ap (λ (x : ℕ). filled_to most_numbers (map value_of done ++ (x ∷ []))) (sym (is_number_lem f v e).1)
            ∙ ap (filled_to most_numbers) (sym (map-append value_of done (f ∷ [])));
      }

  not_all : is_number f ≡ false → all is_number fields ≡ false
  not_all e = ap (all is_number) (sym t.whole) ∙ all_append is_number t.read (f ∷ later) ∙ (λ i. t.good i && (e i && all is_number later))

  longer : count < length fields
  longer = omega (arith, ap length t.whole, length-append t.read (f ∷ later), t.counted)

-- the field behind the comma at a place is taken
module _ (bytes : List ℕ) (fields : List (List ℕ)) (place count : ℕ) (numbers : List ℕ) (t : Taken fields (said_behind bytes place) count numbers) (h : place < length bytes) where
  opened : Taken fields (unquoted (part bytes (place + 1) (field_end bytes (place + 1))) ∷ said_behind bytes (field_end bytes (place + 1))) count numbers
  opened = subst (λ (rest : List (List ℕ)). Taken fields rest count numbers) (said-next bytes place h) t

  pub one_longer : count < length fields
  one_longer = longer fields _ _ count numbers opened

  module _ (end : ℕ) (there : end ≡ field_end bytes (place + 1)) (f : List ℕ) (is : f ≡ unquoted (part bytes (place + 1) end)) where
    said_is : unquoted (part bytes (place + 1) (field_end bytes (place + 1))) ≡ f
    said_is = ap (λ (e : ℕ). unquoted (part bytes (place + 1) e)) (sym there) ∙ sym is

    pub one_more : (v : ℕ) → count < most_numbers → number_of f ≡ Some v → Taken fields (said_behind bytes end) (count + 1) (set numbers count v)
    one_more v room e = subst (λ (p : ℕ). Taken fields (said_behind bytes p) (count + 1) (set numbers count v)) (sym there) (taken_more fields _ _ count numbers opened v room (ap number_of said_is ∙ e))

    pub one_not : number_of f ≡ None → all is_number fields ≡ false
    one_not e = not_all fields _ _ count numbers opened (ap is_number said_is ∙ is_not f e)

pub none_left : (bytes : List ℕ) (fields : List (List ℕ)) (place count : ℕ) (numbers : List ℕ) → Taken fields (said_behind bytes place) count numbers → place ≤ length bytes → length bytes ≤ place → Taken fields [] count numbers
none_left bytes fields place count numbers t h l = subst (λ (rest : List (List ℕ)). Taken fields rest count numbers) (said_end bytes place h l) t

-- which line it makes: none for a word that there is not, for a wrong count, and for a field that is no number
pub no_word : (word : ℕ) (fields : List (List ℕ)) → words ≤ word → unknown ≡ line_from word fields
unfolding line_from line_clauses
no_word word fields h = simp (le-ltb word words h)

module _ (word : ℕ) (fields : List (List ℕ)) where
  line_by : (fits numeric : Bool) → (leb (numbered word).least (length fields) && leb (length fields) (numbered word).greatest) ≡ fits → all is_number fields ≡ numeric → word < words
      → line_from word fields ≡ cond (fits && numeric) (record { word = word; count = length fields; numbers = filled_to most_numbers (map value_of fields) }) unknown
  unfolding line_from line_clauses
  line_by fits numeric p q h = go (leb (numbered word).least (length fields)) (leb (length fields) (numbered word).greatest) (all is_number fields) p q (ltb word words) (lt-ltb word words h)
    where
      line : Line
      line = record { word = word; count = length fields; numbers = filled_to most_numbers (map value_of fields) }

      go : (a b c : Bool) → (a && b) ≡ fits → c ≡ numeric → (d : Bool) → d ≡ true → cond (every (d ∷ a ∷ b ∷ c ∷ [])) line unknown ≡ cond (fits && numeric) line unknown
      go a b c p q d r = rw (r, ← p, ← q) (ap (λ (v : Bool). cond v line unknown) (ap (λ (v : Bool). a && (b && v)) (and-true c) ∙ sym (and_assoc a b c)))

  module _ (known : word < words) where
    wrong-count : (leb (numbered word).least (length fields) && leb (length fields) (numbered word).greatest) ≡ false → unknown ≡ line_from word fields
    wrong-count p = sym (line_by false (all is_number fields) p refl known)

    pub too_many : most_numbers < length fields → unknown ≡ line_from word fields
    too_many h = wrong-count (go (leb (numbered word).least (length fields)) (lt-leb (length fields) (numbered word).greatest (let l = greatest-within word known in omega (arith, l, h))))
      where
        go : (a : Bool) {b : Bool} → b ≡ false → (a && b) ≡ false
        go true e = e
        go false e = refl

    pub not_numbers : all is_number fields ≡ false → unknown ≡ line_from word fields
    not_numbers q = sym (line_by fits false refl q known ∙ go fits)
      where
        fits : Bool
        fits = leb (numbered word).least (length fields) && leb (length fields) (numbered word).greatest

        go : (a : Bool) → cond (a && false) (record { word = word; count = length fields; numbers = filled_to most_numbers (map value_of fields) }) unknown ≡ unknown
        go true = refl
        go false = refl

    -- the fields are all read
    module _ (count : ℕ) (numbers : List ℕ) (t : Taken fields [] count numbers) where
      all_read : t.read ≡ fields
      all_read = sym (append-nil t.read) ∙ t.whole

      size : length fields ≡ count
      size = ap length (sym all_read) ∙ t.counted

      pub count-wrong : (leb (numbered word).least count && leb count (numbered word).greatest) ≡ false → unknown ≡ line_from word fields
      count-wrong e = wrong-count (ap (λ (n : ℕ). leb (numbered word).least n && leb n (numbered word).greatest) size ∙ e)

      pub whole_line : (leb (numbered word).least count && leb count (numbered word).greatest) ≡ true → record { word = word; count = count; numbers = numbers } ≡ line_from word fields
      whole_line e =
          (λ i. record { word = word; count = sym size i; numbers = (t.kept ∙ ap (λ (l : List (List ℕ)). filled_to most_numbers (map value_of l)) all_read) i })
          ∙ sym (line_by true true (ap (λ (n : ℕ). leb (numbered word).least n && leb n (numbered word).greatest) size ∙ e) (ap (all is_number) (sym all_read) ∙ t.good) known)

-- a record is its first field, which says its word, and the fields behind it
pub line_is : (bytes : List ℕ) (end : ℕ) → end ≡ field_end bytes 0 → (f : List ℕ) → f ≡ unquoted (part bytes 0 end) → (word : ℕ) → word ≡ word_of f → line_from word (said_behind bytes end) ≡ line_of bytes
unfolding line_of said_behind
line_is bytes end there f is word says =
    (λ i. line_from ((says ∙ ap word_of (is ∙ ap (λ (e : ℕ). unquoted (part bytes 0 e)) there)) i) (map unquoted (fields_after (drop (there i) bytes))))
    ∙ ap (λ (l : List (List ℕ)). line_of_fields (map unquoted l)) (sym (fields-next bytes 0))

-- What carries a reader through a text: the records from a place on are the record there and the records from the next place on; the
-- next place is further on and within the text; from the end on there is none.
use Prim.Native.Nat.{ℕ, ◌+◌, ◌-◌, ◌<◌, ◌≤◌, min}
use mathlib.Core.Path.{◌≡◌, sym, ap, ◌∙◌}
use mathlib.Core.List.{List, [], ◌∷◌, map}
use native.Mathlib.Omega.{arith, min_cases}
use lib.ListN.{length, get_or, take, drop, drop_of_length-le}
use lib.Seq.{take-nil, drop-length}
use Rattle.program.specs.Text.{records, unquoted, said}
use Rattle.program.specs.Lines.{line_of}
use Rattle.text.specs.Places.{part, record_end, field_end}
use Rattle.text.proofs.Ends.{records-next, fields-next}
use Rattle.reader.specs.Reading.{record_at, first_field_at, line_at, next_at}

-- past the end, nothing is left
drop_min : (text : List ℕ) (n : ℕ) → drop n text ≡ drop (min n (length text)) text
drop_min text n =
    min_cases n (length text) (drop n text ≡ drop (min n (length text)) text)
    (λ _ e. ap (λ (k : ℕ). drop k text) (sym e))
    (λ h e. drop_of_length-le text h ∙ sym (ap (λ (k : ℕ). drop k text) e ∙ drop-length text))

module _ (text : List ℕ) (at : ℕ) where
  -- a record of no bytes, where none begins
  pub record_past : length text ≤ at → [] ≡ record_at text at
  unfolding record_at
  record_past h = sym (ap (take (record_end text at - at)) (drop_of_length-le text h) ∙ take-nil (record_end text at - at))

  pub next_past : length text ≤ at → length text ≡ next_at text at
  unfolding next_at record_end
  next_past h = omega arith

  pub next-within : next_at text at ≤ length text
  unfolding next_at
  next-within = omega arith

  pub next-behind : at < length text → at < next_at text at
  unfolding next_at record_end
  next-behind h = omega arith

  records-from : at < length text → records (drop at text) ≡ record_at text at ∷ records (drop (next_at text at) text)
  unfolding record_at next_at
  records-from h = records-next text at h ∙ ap (λ (l : List ℕ). part text at (record_end text at) ∷ records l) (drop_min text (record_end text at + 2))

  pub none_from : length text ≤ at → records (drop at text) ≡ []
  none_from h = ap records (drop_of_length-le text h)

  -- the same of what the records say
  pub lines_from_lem : at < length text → map line_of (records (drop at text)) ≡ line_at text at ∷ map line_of (records (drop (next_at text at) text))
  unfolding line_at
  lines_from_lem h = ap (map line_of) (records-from h)

-- the first field of a record's bytes
pub first_field : (text : List ℕ) (at : ℕ) (bytes : List ℕ) → bytes ≡ record_at text at → (end : ℕ) → end ≡ field_end bytes 0 → unquoted (part bytes 0 end) ≡ first_field_at text at
unfolding first_field_at
first_field text at bytes is end there =
    ap (λ (e : ℕ). unquoted (part bytes 0 e)) there
    ∙ ap (λ (l : List (List ℕ)). get_or (map unquoted l) 0 []) (sym (fields-next bytes 0))
    ∙ ap (λ (l : List ℕ). get_or (said l) 0 []) is

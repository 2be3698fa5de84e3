-- The events, one after the other: the invariant of the loop that answers them, and what it comes to.
use Prim.Native.Nat.{ℕ, suc, ◌+◌, ◌-◌, ◌*◌, ◌≤◌, ◌<◌, min}
use mathlib.Core.Path.{◌≡◌, refl, sym, ap, ◌∙◌, subst, subst⁻¹}
use mathlib.Core.Bool.{Bool, true, false, not}
use mathlib.Core.Logic.{◌⊎◌, inl, inr}
use mathlib.Core.List.{List, [], ◌++◌, map}
use native.Mathlib.Omega.{arith}
use native.Mathlib.Numerals.{add-one}
use lib.Dec.{T, ltb}
use borrow.Author.Rules.{rules}
use lib.ListN.{length, take, drop, length-take, length-drop}
use Rattle.model.specs.Values.{Tables}
use Rattle.model.specs.Layout.{policy_of}
use Rattle.model.specs.Sound.{sound_policy, sound}
use Rattle.model.specs.Answered.{Answer, code, second}
use Rattle.program.specs.Lines.{Line, line_of}
use Rattle.program.specs.Said.{number_of, line_of_read, line_said}
use Rattle.program.specs.declared.Line.{Line as Read}
use Rattle.std.specs.Prelude.{Option, Some, None}
use Rattle.std.specs.Option.{MatchOption}
use Rattle.std.proofs.lemmas.Option.{none-some}
use Rattle.std.specs.Bool.{then_some}
use Rattle.program.specs.Program.{Machine, answer_record, bad_record, is_full, after_event, step, steps, line_call}
use Rattle.program.proofs.Lengths.{event_length}
use Rattle.program.proofs.Steps.{bad_by, bad_is, event_not_bad, policy_after_event, unknown_bad, bad_written, event_taken}
use Rattle.text.specs.Places.{part, record_end}
use Rattle.text.proofs.Ends.{record-within}
use Rattle.reader.specs.Reading.{record_at, line_at, next_at}
use Rattle.reader.proofs.Walking.{lines_from_lem, none_from, next-within}
use Rattle.writer.specs.Writing.{Wrote}
use Rattle.writer.proofs.Sizes.{answer_short, bad_short}
use Rattle.inner.specs.Promise.{Answers}
use Rattle.load.specs.Loading.{running, lines_from}
use Rattle.event.specs.SoundIf.{SoundIf}
use Rattle.session.specs.Output.{Holds}

-- ── lines ──

below : (w : ℕ) → false ≡ not (ltb w 3) → w < 3
below w e = search rules

-- what is kept of the line that a record says
abbrev Filtered : (Read → Bool → Type 0) → Option Read → Option Read → Type 0
Filtered Says r kept = MatchOption r (kept ≡ None) (λ x. (b : Bool) × Says x b × (kept ≡ then_some b x))

-- the line that is kept is the record's; where none is kept, the record is bad
module _ (Says : Read → Bool → Type 0) (r : Option Read) (text : List ℕ) (at : ℕ) (said : line_said r ≡ line_at text at) where
  pub an_event : (line : Read) → Filtered Says r (Some line) → line_of_read line ≡ line_at text at
  an_event line m = go r said m
    where
      go : (o : Option Read) → line_said o ≡ line_at text at → Filtered Says o (Some line) → line_of_read line ≡ line_at text at
      go None e m = absurd (none-some line (sym m))
      go (Some x) e (true, s, k) = ap line_said k ∙ e
      go (Some x) e (false, s, k) = absurd (none-some line (sym k))

  pub no_event : ((x : Read) (b : Bool) → Says x b → b ≡ not (ltb (number_of x.word) 3)) → Filtered Says r None → ((line_at text at).word < 3) ⊎ ((line_at text at).word ≡ 11)
  no_event f m = go r said m
    where
      go : (o : Option Read) → line_said o ≡ line_at text at → Filtered Says o None → ((line_at text at).word < 3) ⊎ ((line_at text at).word ≡ 11)
      go None e m = inr (ap (λ (l : Line). l.word) (sym e))
      go (Some x) e (true, s, k) = absurd (none-some x k)
      go (Some x) e (false, s, k) = inl (subst (λ (l : Line). l.word < 3) e (below (number_of x.word) (f x false s)))

-- behind an event's record the text is seven bytes further on
event_behind : (text : List ℕ) (at : ℕ) → at < length text → 3 ≤ (line_at text at).word → (line_at text at).word < 11 → at + 7 ≤ next_at text at
unfolding line_at record_at next_at
event_behind text at h a b =
    let w = record-within text at (record_end text at) refl (omega arith) in
    let long : 7 ≤ length (part text at (record_end text at)) = event_length (part text at (record_end text at)) a b in
    let size : length (part text at (record_end text at)) ≡ min (record_end text at - at) (length text - at) = length-take (record_end text at - at) (drop at text) ∙ ap (min (record_end text at - at)) (length-drop at text) in
    room (record_end text at) (length (part text at (record_end text at))) w.ordered w.inside long size
  where
    room : (end size : ℕ) → at ≤ end → end ≤ length text → 7 ≤ size → size ≡ min (end - at) (length text - at) → at + 7 ≤ min (end + 2) (length text)
    room end size o i l e = omega arith

-- ── the invariant ──

-- before each record: no more records were taken than bytes, at most twice the bytes read are written, and what is written in the end is
-- what a machine writes that holds this and goes on from here
pub record Runs (t : Tables) (text : List ℕ) (from taken : ℕ) (s₀ : List ℕ) (sound-policy : Bool) (at n w : ℕ) (s out : List ℕ) : Type 0 where
  pub in_text : at ≤ length text
  pub few : n ≤ at
  pub room : w ≤ 2 * at
  pub fits : 2 * length text + 16 ≤ length out
  pub sound_if : SoundIf t s sound-policy
  pub so_far : (steps (running t s₀ taken []) (lines_from text from)).written ≡ (steps (running t s n (take w out)) (lines_from text at)).written

pub runs_start : (t : Tables) (text : List ℕ) (from taken : ℕ) (s : List ℕ) (sound-policy : Bool) (out : List ℕ) → T (sound (policy_of t) s) → sound-policy ≡ sound_policy t → from ≤ length text → taken ≤ from → 2 * length text + 16 ≤ length out → Runs t text from taken s sound-policy from taken 0 s out
runs_start t text from taken s sound-policy out h j a b c = record { in_text = a; few = b; room = omega arith; fits = c; sound_if = record { policy = j; state = h }; so_far = refl }

module _ (t : Tables) (text : List ℕ) (from taken : ℕ) (s₀ : List ℕ) (sound-policy : Bool) (at n w : ℕ) (s out : List ℕ) (g : Runs t text from taken s₀ sound-policy at n w s out) where
  abbrev here : Machine
  here = running t s n (take w out)

  -- an event is answered
  pub runs_on : (line : Line) (next : ℕ) (r : Answer) (s' out' : List ℕ) (w' : ℕ) → at < length text → line ≡ line_at text at → next ≡ next_at text at → 3 ≤ line.word → line.word < 11 → code r < 65536 → second r < 65536
      → Answers t s (line_call line) r s' → T (sound (policy_of t) s') → Wrote out out' w (answer_record (code r) (second r)) w' → Runs t text from taken s₀ sound-policy next (n + 1) w' s' out'
  unfolding after_event
  runs_on line next r s' out' w' h e f a b c₁ c₂ k v o =
      let far : at + 7 ≤ next = subst⁻¹ (λ (x : ℕ). at + 7 ≤ x) f (event_behind text at h (subst⁻¹ (λ (l : Line). 3 ≤ l.word) (sym e) a) (subst⁻¹ (λ (l : Line). l.word < 11) (sym e) b)) in
      record {
        in_text = omega (arith, f, next-within text at);
        few = omega (arith, g.few, far);
        room = omega (arith, g.room, o.place, answer_short (code r) (second r) c₁ c₂, far);
        fits = omega (arith, g.fits, o.size);
        sound_if = record { policy = g.sound_if.policy; state = v };
        so_far =
            g.so_far
            ∙ ap (λ (ls : List Line). (steps here ls).written) (lines_from_lem text at h)
            ∙ ap (λ (l : Line). (steps (step here l) (lines_from text (next_at text at))).written) (sym e)
            ∙ ap (λ (m : Machine). (steps m (lines_from text (next_at text at))).written) (event_taken here line refl (bad_is here line ∙ event_not_bad line.word (is_full 512 11 t.rules) (is_full 128 7 t.kinds) (is_full 2048 2 t.rights) true a b) a)
            ∙ (λ i. (steps (running t (sym k.state_kept i) (suc n) (take w out ++ answer_record (sym k.code_kept i) (sym k.second_kept i))) (lines_from text (sym f i))).written)
            ∙ (λ i. (steps (running t s' (sym (add-one n) i) (sym o.front i)) (lines_from text next)).written);
      }

  -- a bad record ends it
  pub runs_bad : (out' : List ℕ) (w' : ℕ) → at < length text → length text ≤ 65536 → ((line_at text at).word < 3) ⊎ ((line_at text at).word ≡ 11) → Wrote out out' w (bad_record (n + 1)) w' → Holds out' w' (steps (running t s₀ taken []) (lines_from text from)).written
  runs_bad out' w' h most bad o =
      record {
        within = omega (arith, o.place, o.size, g.room, g.fits, g.in_text, bad_short (n + 1) (omega (arith, g.few, g.in_text)));
        front =
            o.front
            ∙ ap (λ (k : ℕ). take w out ++ bad_record k) (add-one n)
            ∙ sym (bad_written here (line_at text at) (lines_from text (next_at text at)) refl (bad_is here (line_at text at) ∙ by bad))
            ∙ sym (g.so_far ∙ ap (λ (ls : List Line). (steps here ls).written) (lines_from_lem text at h));
      }
    where
      by : ((line_at text at).word < 3) ⊎ ((line_at text at).word ≡ 11) → bad_by (line_at text at).word (is_full 512 11 t.rules) (is_full 128 7 t.kinds) (is_full 2048 2 t.rights) true ≡ true
      by (inl a) = policy_after_event (line_at text at).word (is_full 512 11 t.rules) (is_full 128 7 t.kinds) (is_full 2048 2 t.rights) a
      by (inr e) = unknown_bad (line_at text at).word (is_full 512 11 t.rules) (is_full 128 7 t.kinds) (is_full 2048 2 t.rights) true e

  -- the text's end
  pub runs_end : length text ≤ at → Holds out w (steps (running t s₀ taken []) (lines_from text from)).written
  runs_end h =
      record {
        within = omega (arith, g.room, g.fits, g.in_text);
        front = sym (g.so_far ∙ ap (λ (rs : List (List ℕ)). (steps here (map line_of rs)).written) (none_from text at h));
      }

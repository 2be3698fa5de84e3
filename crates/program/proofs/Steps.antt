-- What a step of the machine comes to: it stays once it is stopped, a bad line stops it, and a line of the policy or an event is taken.
use Prim.Native.Nat.{ℕ, suc, ◌≤◌, ◌<◌}
use mathlib.Core.Path.{◌≡◌, refl, sym, ap, ◌∙◌}
use mathlib.Core.Bool.{Bool, true, false, ◌&&◌, ◌||◌, cond}
use mathlib.Core.List.{List, [], ◌∷◌, ◌++◌}
use native.Mathlib.Omega.{arith}
use lib.Dec.{eqb, ltb}
use borrow.Author.Tests.{lt-ltb, le-ltb, ne_eqb}
use Rattle.model.specs.Lists.{any}
use Rattle.model.specs.Calls.{answer}
use Rattle.model.proofs.Tests.{or_later}
use Rattle.program.specs.Program.{Machine, bad_record, is_policy, line_call, is_full, bad_ways, is_bad, after_bad, after_policy, after_event, step, steps}
use Rattle.program.specs.Lines.{Line}

-- ── a stopped machine stays ──

still : (m : Machine) (l : Line) → m.stopped ≡ true → step m l ≡ m
unfolding step
still m l e = ap (λ (b : Bool). cond b m (cond (is_bad m l) (after_bad m) (cond (is_policy l) (after_policy m l) (after_event m (answer m.tables m.state [] (line_call l)))))) e

stopped-stays : (m : Machine) (ls : List Line) → m.stopped ≡ true → steps m ls ≡ m
stopped-stays m [] e = refl
stopped-stays m (l ∷ ls) e = ap (λ (x : Machine). steps x ls) (still m l e) ∙ stopped-stays m ls e

-- ── the ways to be bad, by the line's word ──

-- the ways for a word w: whether each table is full, and whether an event has come
abbrev pub bad_by : ℕ → Bool → Bool → Bool → Bool → Bool
bad_by w rules kinds rights came = any (λ (way : Bool). way) (eqb w 11 ∷ (eqb w 0 && rules) ∷ (eqb w 1 && kinds) ∷ (eqb w 2 && rights) ∷ (ltb w 3 && came) ∷ [])

pub bad_is : (m : Machine) (l : Line) → is_bad m l ≡ bad_by l.word (is_full 512 11 m.tables.rules) (is_full 128 7 m.tables.kinds) (is_full 2048 2 m.tables.rights) m.event_came
unfolding bad_ways
bad_is m l = refl

-- an event is not bad, whatever has come
pub event_not_bad : (w : ℕ) (a b c came : Bool) → 3 ≤ w → w < 11 → bad_by w a b c came ≡ false
event_not_bad w a b c came h k =
    λ i.
    any (λ (way : Bool). way)
    (ne_eqb w 11 (λ e. omega (arith, e)) i ∷ (ne_eqb w 0 (λ e. omega (arith, e)) i && a) ∷ (ne_eqb w 1 (λ e. omega (arith, e)) i && b) ∷ (ne_eqb w 2 (λ e. omega (arith, e)) i && c) ∷ (le-ltb w 3 h i && came) ∷ [])

-- a word past the policy's is as bad before the first event as after it
pub came_or_not : (w : ℕ) (a b c : Bool) → 3 ≤ w → bad_by w a b c false ≡ bad_by w a b c true
came_or_not w a b c h = (λ i. any (λ (way : Bool). way) (eqb w 11 ∷ (eqb w 0 && a) ∷ (eqb w 1 && b) ∷ (eqb w 2 && c) ∷ (le-ltb w 3 h i && false) ∷ [])) ∙ sym (λ i. any (λ (way : Bool). way) (eqb w 11 ∷ (eqb w 0 && a) ∷ (eqb w 1 && b) ∷ (eqb w 2 && c) ∷ (le-ltb w 3 h i && true) ∷ []))

-- a record of the policy after an event
pub policy_after_event : (w : ℕ) (a b c : Bool) → w < 3 → bad_by w a b c true ≡ true
policy_after_event w a b c h =
    or_later (eqb w 11) _ (or_later (eqb w 0 && a) _ (or_later (eqb w 1 && b) _ (or_later (eqb w 2 && c) _ (ap (λ (v : Bool). (v && true) || false) (lt-ltb w 3 h)))))

pub unknown_bad : (w : ℕ) (a b c came : Bool) → w ≡ 11 → bad_by w a b c came ≡ true
unknown_bad w a b c came e = ap (λ (n : ℕ). bad_by n a b c came) e

-- ── what a step comes to ──

pub bad_written : (m : Machine) (l : Line) (ls : List Line) → m.stopped ≡ false → is_bad m l ≡ true → (steps m (l ∷ ls)).written ≡ m.written ++ bad_record (suc m.taken)
unfolding step after_bad
bad_written m l ls s b =
    ap (λ (x : Machine). (steps x ls).written) ((λ i. cond (s i) m (cond (b i) (after_bad m) (cond (is_policy l) (after_policy m l) (after_event m (answer m.tables m.state [] (line_call l)))))))
    ∙ ap (λ (x : Machine). x.written) (stopped-stays (after_bad m) ls refl)

pub event_taken : (m : Machine) (l : Line) → m.stopped ≡ false → is_bad m l ≡ false → 3 ≤ l.word → step m l ≡ after_event m (answer m.tables m.state [] (line_call l))
unfolding step
event_taken m l s b h = λ i. cond (s i) m (cond (b i) (after_bad m) (cond (le-ltb l.word 3 h i) (after_policy m l) (after_event m (answer m.tables m.state [] (line_call l)))))

pub policy-taken : (m : Machine) (l : Line) → m.stopped ≡ false → is_bad m l ≡ false → l.word < 3 → step m l ≡ after_policy m l
unfolding step
policy-taken m l s b h = λ i. cond (s i) m (cond (b i) (after_bad m) (cond (lt-ltb l.word 3 h i) (after_policy m l) (after_event m (answer m.tables m.state [] (line_call l)))))

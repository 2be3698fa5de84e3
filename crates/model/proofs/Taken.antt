-- Taking away what a list of withdrawals names: it keeps the form of a state, a longer list leaves no more, and taking away
-- two lists in turn is taking away both at once, but for what falls. All at once then leaves a sound state.
use Prim.Native.Nat.{ℕ, zero, suc, ◌-◌, ◌≤◌, ◌<◌}
use mathlib.Core.Path.{◌≡◌, refl, sym, ap, ◌∙◌, subst, subst⁻¹}
use mathlib.Core.Bool.{Bool, true, false, not, ◌||◌, cond}
use mathlib.Core.Logic.{◌⊎◌}
use mathlib.Core.List.{List, [], ◌∷◌, ◌++◌, Memᴰ, Sublistᴰ}
use mathlib.Core.List.{Permᴰ}
use native.Mathlib.Omega.{arith}
use lib.Dec.{T, eqb, eqb→eq, eqb_refl, T_not, not_T}
use lib.ListN.{length, get_or, set}
use Rattle.model.specs.Lists.{any, all, all_over_earlier, without, is_bit}
use Rattle.model.specs.Values.{Policy, State, world_of, with_rows}
use Rattle.model.specs.Conditions.{supported}
use Rattle.model.specs.Left.{Largest}
use Rattle.model.specs.Sound.{row_sound}
use Rattle.model.specs.Withdrawals.{Withdrawal, fact_false, certificate_gone, logged_out, names_fact, names_certificate, names_user_of, facts_left, taken_away, all_at_once}
use Rattle.model.specs.declared.Row.{Row}
use Rattle.model.specs.declared.Certificate.{Certificate}
use Rattle.model.specs.Words.{Fits, SoundState}
use Rattle.model.proofs.Tests.{and_left, and_right, and_both, or_left, or_right, or_cases, is_false, any-map, any_append}
use Rattle.model.proofs.Parts.{part-member, part_length, without-part, without-member, without-keeps, without-same, without-twice}
use Rattle.model.proofs.Support.{Less}
use Rattle.model.proofs.Kept.{sound-rows, fallen_sound, ByUser, rows-without-user}
use Rattle.model.proofs.Accepted.{fallen_largest}

-- ── what one list names, another names ──

-- every withdrawal of the first list is one of the second
abbrev pub Fewer : List Withdrawal → List Withdrawal → Type 0
Fewer few many = (w : Withdrawal) → Memᴰ w few → Memᴰ w many

named : (few many : List Withdrawal) → Fewer few many → (test : Withdrawal → Bool) → T (any test few) → T (any test many)
named few many sub test t = any-map test test few many (λ w m h. (sub w m, h)) t

pub unnamed : (few many : List Withdrawal) → Fewer few many → (test : Withdrawal → Bool) → T (not (any test many)) → T (not (any test few))
unnamed few many sub test n = not_T (any test few) (λ t. T_not (any test many) n (named few many sub test t))

-- in another order a list names the same
pub any_order : (test : Withdrawal → Bool) {ws vs : List Withdrawal} → Permᴰ ws vs → any test ws ≡ any test vs
any_order test Permᴰ.nil = refl
any_order test (Permᴰ.cons e d) = λ i. test (e i) || any_order test d i
any_order test (Permᴰ.swap {a = a} {b = b} {l = l} e f) = go (test a) (test b) (any test l) ∙ (λ i. test (f i) || (test (e i) || any test l))
  where
    go : (x y z : Bool) → (x || (y || z)) ≡ (y || (x || z))
    go true true z = refl
    go true false z = refl
    go false true z = refl
    go false false z = refl
any_order test (Permᴰ.trans d e) = any_order test d ∙ any_order test e

-- ── facts ──

facts-length : (ws : List Withdrawal) (first : ℕ) (l : List ℕ) → length (facts_left ws first l) ≡ length l
facts-length ws first [] = refl
facts-length ws first (v ∷ l) = ap suc (facts-length ws (suc first) l)

facts-bits : (ws : List Withdrawal) (first : ℕ) (l : List ℕ) → T (all is_bit l) → T (all is_bit (facts_left ws first l))
facts-bits ws first [] t = tt
facts-bits ws first (v ∷ l) t = and_both (is_bit (cond (any (names_fact first) ws) 0 v)) (all is_bit (facts_left ws (suc first) l)) (go (any (names_fact first) ws)) (facts-bits ws (suc first) l (and_right (is_bit v) (all is_bit l) t))
  where
    go : (b : Bool) → T (is_bit (cond b 0 v))
    go true = tt
    go false = and_left (is_bit v) (all is_bit l) t

-- a list that names no fact
pub facts_unnamed : (ws : List Withdrawal) → ((f : ℕ) → T (not (any (names_fact f) ws))) → (first : ℕ) (l : List ℕ) → facts_left ws first l ≡ l
facts_unnamed ws n first [] = refl
facts_unnamed ws n first (v ∷ l) = λ i. cond (is_false (any (names_fact first) ws) (n first) i) 0 v ∷ facts_unnamed ws n (suc first) l i

facts-twice : (vs ws : List Withdrawal) (first : ℕ) (l : List ℕ) → facts_left ws first (facts_left vs first l) ≡ facts_left (vs ++ ws) first l
facts-twice vs ws first [] = refl
facts-twice vs ws first (v ∷ l) = λ i. (go (any (names_fact first) vs) (any (names_fact first) ws) ∙ ap (λ (b : Bool). cond b 0 v) (sym (any_append (names_fact first) vs ws))) i ∷ facts-twice vs ws (suc first) l i
  where
    go : (a b : Bool) → cond b 0 (cond a 0 v) ≡ cond (a || b) 0 v
    go true true = refl
    go true false = refl
    go false true = refl
    go false false = refl

facts_fewer : (few many : List Withdrawal) → Fewer few many → (first : ℕ) (l : List ℕ) (f : ℕ) → T (eqb (get_or (facts_left many first l) f 0) 1) → T (eqb (get_or (facts_left few first l) f 0) 1)
facts_fewer few many sub first [] f t = t
facts_fewer few many sub first (v ∷ l) zero t = go (any (names_fact first) few) (any (names_fact first) many) (named few many sub (names_fact first)) t
  where
    go : (a b : Bool) → (T a → T b) → T (eqb (cond b 0 v) 1) → T (eqb (cond a 0 v) 1)
    go true true h u = u
    go true false h u = absurd (h tt)
    go false true h u = absurd u
    go false false h u = u
facts_fewer few many sub first (v ∷ l) (suc f) t = facts_fewer few many sub (suc first) l f t

facts-same : (ws vs : List Withdrawal) → ((test : Withdrawal → Bool) → any test ws ≡ any test vs) → (first : ℕ) (l : List ℕ) → facts_left ws first l ≡ facts_left vs first l
facts-same ws vs e first [] = refl
facts-same ws vs e first (v ∷ l) = λ i. cond (e (names_fact first) i) 0 v ∷ facts-same ws vs e (suc first) l i

-- one fact is set
facts_past : (f first : ℕ) (l : List ℕ) → f < first → facts_left (fact_false f ∷ []) first l ≡ l
facts_past f first [] h = refl
facts_past f first (v ∷ l) h = λ i. go (eqb first f) (λ t. eqb→eq first f t) i ∷ facts_past f (suc first) l (omega arith) i
  where
    go : (b : Bool) → (T b → first ≡ f) → cond (b || false) 0 v ≡ v
    go true e = absurd (omega (arith, e tt))
    go false e = refl

pub facts_one : (f first : ℕ) (l : List ℕ) → first ≤ f → facts_left (fact_false f ∷ []) first l ≡ set l (f - first) 0
facts_one f first [] h = refl
facts_one f first (v ∷ l) h = go (eqb first f) refl (λ k. facts_one f (suc first) l k)
  where
    apart : eqb first f ≡ false → first < f
    apart e = omega (arith, different)
      where
        different : first ≡ f → ⊥
        different q = subst T e (subst (λ (n : ℕ). T (eqb first n)) q (eqb_refl first))

    go : (b : Bool) → eqb first f ≡ b → (suc first ≤ f → facts_left (fact_false f ∷ []) (suc first) l ≡ set l (f - suc first) 0) → cond (b || false) 0 v ∷ facts_left (fact_false f ∷ []) (suc first) l ≡ set (v ∷ l) (f - first) 0
    go true e k =
        let q : first ≡ f = eqb→eq first f (subst⁻¹ T e tt) in
        let z : 0 ≡ f - first = omega arith in
        ap (λ (r : List ℕ). 0 ∷ r) (facts_past f (suc first) l (omega arith)) ∙ ap (λ (n : ℕ). set (v ∷ l) n 0) z
    go false e k =
        let q : first < f = apart e in
        let z : suc (f - suc first) ≡ f - first = omega arith in
        ap (λ (r : List ℕ). v ∷ r) (k q) ∙ ap (λ (n : ℕ). set (v ∷ l) n 0) z

-- ── the whole state ──

unfoldable pub gone_row : List Withdrawal → Row → Bool
gone_row ws r = any (names_user_of r) ws

-- a list names users, so it takes all the rows of a user or none
pub gone_by_user : (ws : List Withdrawal) → ByUser (gone_row ws)
unfolding gone_row
gone_by_user ws = record { alike = λ a b e t. any-map (names_user_of a) (names_user_of b) ws ws (λ w m h. (m, one w a b e h)) t }
  where
    one : (w : Withdrawal) (a b : Row) → a.user ≡ b.user → T (names_user_of a w) → T (names_user_of b w)
    one (fact_false f) a b e h = h
    one (certificate_gone c) a b e h = h
    one (logged_out u) a b e h = subst (λ (n : ℕ). T (eqb n u)) e h

taken-fits : (ws : List Withdrawal) (t : State) → Fits t → Fits (taken_away ws t)
unfolding taken_away
taken-fits ws t f =
    record {
      all_facts = facts-length ws 0 t.facts ∙ f.all_facts;
      bits = facts-bits ws 0 t.facts f.bits;
      room_for_rows = omega (arith, part_length _ _ (without-part (λ (r : Row). any (names_user_of r) ws) t.rows), f.room_for_rows);
      room_for_certificates = omega (arith, part_length _ _ (without-part (λ (c : Certificate). any (names_certificate c) ws) t.certificates), f.room_for_certificates);
    }

taken-part : (ws : List Withdrawal) (t : State) → Sublistᴰ (taken_away ws t).certificates t.certificates
unfolding taken_away
taken-part ws t = without-part (λ (c : Certificate). any (names_certificate c) ws) t.certificates

-- a longer list leaves no more
pub taken_less : (few many : List Withdrawal) → Fewer few many → (t : State) → Less (taken_away many t) (taken_away few t)
unfolding taken_away
taken_less few many sub t =
    record {
      certificates = λ c m. without-keeps (λ (d : Certificate). any (names_certificate d) few) t.certificates c (part-member c _ _ (without-part (λ (d : Certificate). any (names_certificate d) many) t.certificates) m) (unnamed few many sub (names_certificate c) (without-member (λ (d : Certificate). any (names_certificate d) many) t.certificates c m));
      facts = λ f h. facts_fewer few many sub 0 t.facts f h;
    }

-- lists that name the same leave the same
pub taken-same : (ws vs : List Withdrawal) → ((test : Withdrawal → Bool) → any test ws ≡ any test vs) → (t : State) → taken_away ws t ≡ taken_away vs t
unfolding taken_away
taken-same ws vs e t =
    λ i.
    record {
      facts = facts-same ws vs e 0 t.facts i;
      rows = without-same (λ (r : Row). any (names_user_of r) ws) (λ (r : Row). any (names_user_of r) vs) t.rows (λ r m. e (names_user_of r)) i;
      certificates = without-same (λ (c : Certificate). any (names_certificate c) ws) (λ (c : Certificate). any (names_certificate c) vs) t.certificates (λ c m. e (names_certificate c)) i;
    }

-- in turn or at once, but for what falls
pub taken-facts : (vs ws : List Withdrawal) (t : State) (rows : List Row) → (taken_away ws (with_rows (taken_away vs t) rows)).facts ≡ (taken_away (vs ++ ws) t).facts
unfolding taken_away
taken-facts vs ws t rows = facts-twice vs ws 0 t.facts

twice_or : (vs ws : List Withdrawal) (test : Withdrawal → Bool) → T (any test (vs ++ ws)) → T (any test vs) ⊎ T (any test ws)
twice_or vs ws test h = or_cases (any test vs) (any test ws) (subst T (any_append test vs ws) h)

in_first : (vs ws : List Withdrawal) (test : Withdrawal → Bool) → T (any test vs) → T (any test (vs ++ ws))
in_first vs ws test h = subst⁻¹ T (any_append test vs ws) (or_left (any test vs) (any test ws) h)

in_second : (vs ws : List Withdrawal) (test : Withdrawal → Bool) → T (any test ws) → T (any test (vs ++ ws))
in_second vs ws test h = subst⁻¹ T (any_append test vs ws) (or_right (any test vs) (any test ws) h)

pub taken-certificates : (vs ws : List Withdrawal) (t : State) (rows : List Row) → (taken_away ws (with_rows (taken_away vs t) rows)).certificates ≡ (taken_away (vs ++ ws) t).certificates
unfolding taken_away
taken-certificates vs ws t rows =
    without-twice (λ (c : Certificate). any (names_certificate c) vs) (λ (c : Certificate). any (names_certificate c) ws) (λ (c : Certificate). any (names_certificate c) (vs ++ ws)) t.certificates
    (λ c h. twice_or vs ws (names_certificate c) h) (λ c h. in_first vs ws (names_certificate c) h) (λ c h. in_second vs ws (names_certificate c) h)

pub taken-rows : (vs ws : List Withdrawal) (t : State) → without (gone_row ws) (taken_away vs t).rows ≡ (taken_away (vs ++ ws) t).rows
unfolding taken_away gone_row
taken-rows vs ws t =
    without-twice (λ (r : Row). any (names_user_of r) vs) (λ (r : Row). any (names_user_of r) ws) (λ (r : Row). any (names_user_of r) (vs ++ ws)) t.rows
    (λ r h. twice_or vs ws (names_user_of r) h) (λ r h. in_first vs ws (names_user_of r) h) (λ r h. in_second vs ws (names_user_of r) h)

-- the rows that are not themselves taken away are as sound as before
taken-rows-sound : (p : Policy) (t : State) (ws : List Withdrawal) → SoundState p t → T (all_over_earlier (row_sound (world_of p t)) [] (taken_away ws t).rows)
unfolding taken_away gone_row
taken-rows-sound p t ws h = rows-without-user p t (gone_row ws) (gone_by_user ws) (sound-rows p t h)

pub all-at-once-sound : (p : Policy) (t : State) (ws : List Withdrawal) → SoundState p t → SoundState p (all_at_once p t ws)
unfolding all_at_once
all-at-once-sound p t ws h = fallen_sound p t (taken_away ws t) h (taken-fits ws t h.fits) (taken-part ws t) (taken-rows-sound p t ws h)

-- what is left is the largest part
pub all_at_once_largest : (p : Policy) (t : State) (ws : List Withdrawal) → SoundState p t → Largest (supported (world_of p (taken_away ws t))) (taken_away ws t).rows (all_at_once p t ws).rows
unfolding all_at_once
all_at_once_largest p t ws h = fallen_largest p t (taken_away ws t) (taken-rows-sound p t ws h)

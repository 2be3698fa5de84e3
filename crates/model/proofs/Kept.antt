-- What the calls do to a sound state leaves a sound state. One law for each way in which a state changes.
use Prim.Native.Nat.{ℕ, zero, suc, ◌+◌, ◌≤◌, ◌<◌}
use mathlib.Core.Path.{◌≡◌, ◌∙◌}
use mathlib.Core.Bool.{Bool, not}
use mathlib.Core.Logic.{◌⊎◌, inl, inr}
use mathlib.Core.List.Memᴰ
use mathlib.Core.List.{List, [], ◌∷◌, ◌++◌, Memᴰ, Sublistᴰ}
use native.Mathlib.Omega.{arith}
use lib.Dec.{T, eqb, ltb, lt→ltb, leb→le, T_not, not_T}
use lib.ListN.{length, take, set, length-append, length-set}
use Rattle.model.specs.Lists.{any, all, all_over_earlier, without, is_bit}
use Rattle.model.specs.Limits.{users, roles, most_rows, most_certificates}
use Rattle.model.specs.Values.{Tables, Policy, State, World, world_of, with_rows, with_certificates, with_fact}
use Rattle.model.specs.Layout.{policy_of}
use Rattle.model.specs.Conditions.{rule_numbered, activating, membership, meant, active, is_row, holds, satisfied, supported}
use Rattle.model.specs.Left.{left}
use Rattle.model.specs.Sound.{rule_clauses, rule_fits, policy_clauses, sound_policy, row_sound, same_certificate, certificate_clauses, certificate_sound, sound_values}
use Rattle.model.specs.declared.Rule.{Rule}
use Rattle.model.specs.declared.Row.{Row}
use Rattle.model.specs.declared.Certificate.{Certificate}
use Rattle.model.specs.Words.{Fits, SoundState}
use Rattle.model.proofs.Tests.{and_left, and_right, and_both, any-map, all_of, of_all, each, of_each, at_place, earlier_last, earlier_map}
use Rattle.model.proofs.Parts.{part-member, part_length, without-part, without-keeps, earlier_part, earlier_without}
use Rattle.model.proofs.Sweep.{left-part, left_earlier}
use Rattle.model.proofs.Support.{active_of, of_active, active_grows, is_row-user, supported_grows, row-user, row-role, row_new, row-rule, row_target, row-supported, row-sound, Less, less_supports}

-- ── the two halves of soundness ──

pub sound-certificates : (p : Policy) (t : State) → SoundState p t → T (all_over_earlier (certificate_sound p) [] t.certificates)
unfolding sound_values
sound-certificates p t h = and_left (all_over_earlier (certificate_sound p) [] t.certificates) (all_over_earlier (row_sound (world_of p t)) [] t.rows) h.values

pub sound-rows : (p : Policy) (t : State) → SoundState p t → T (all_over_earlier (row_sound (world_of p t)) [] t.rows)
unfolding sound_values
sound-rows p t h = and_right (all_over_earlier (certificate_sound p) [] t.certificates) (all_over_earlier (row_sound (world_of p t)) [] t.rows) h.values

sound-state : (p : Policy) (t : State) → Fits t → T (all_over_earlier (certificate_sound p) [] t.certificates) → T (all_over_earlier (row_sound (world_of p t)) [] t.rows) → SoundState p t
unfolding sound_values
sound-state p t f c r = record { fits = f; values = and_both (all_over_earlier (certificate_sound p) [] t.certificates) (all_over_earlier (row_sound (world_of p t)) [] t.rows) c r }

-- ── other rows, or other certificates, where there is room for them ──

rows_fit : (t : State) (rows : List Row) → Fits t → length rows ≤ most_rows → Fits (with_rows t rows)
rows_fit t rows f room = record { all_facts = f.all_facts; bits = f.bits; room_for_rows = room; room_for_certificates = f.room_for_certificates }

pub certificates_fit : (t : State) (certificates : List Certificate) → Fits t → length certificates ≤ most_certificates → Fits (with_certificates t certificates)
certificates_fit t certificates f room = record { all_facts = f.all_facts; bits = f.bits; room_for_rows = f.room_for_rows; room_for_certificates = room }

-- ── a row is added ──

length_last : {A : Type 0} (xs : List A) (x : A) → length (xs ++ (x ∷ [])) ≡ length xs + 1
length_last xs x = length-append xs (x ∷ [])

pub row_added : (p : Policy) (t : State) (r : Row) → SoundState p t → length t.rows < most_rows → T (row_sound (world_of p t) t.rows r) → SoundState p (with_rows t (t.rows ++ (r ∷ [])))
row_added p t r h room s =
    sound-state p (with_rows t (t.rows ++ (r ∷ [])))
    (rows_fit t (t.rows ++ (r ∷ [])) h.fits (omega (arith, length_last t.rows r)))
    (sound-certificates p t h)
    (earlier_last (row_sound (world_of p t)) t.rows r (sound-rows p t h) s)

take_grows : {A : Type 0} (m n : ℕ) (l : List A) (x : A) → m ≤ n → Memᴰ x (take m l) → Memᴰ x (take n l)
take_grows zero n l x h k = absurd (Memᴰ.not-nil k)
take_grows (suc m) n [] x h k = absurd (Memᴰ.not-nil k)
take_grows (suc m) zero (y ∷ l) x h k = absurd (omega arith)
take_grows (suc m) (suc n) (y ∷ l) x h k = go (λ v. take_grows m n l x (omega arith) v) (Memᴰ.cases_cons k)
  where
    go : (Memᴰ x (take m l) → Memᴰ x (take n l)) → (x ≡ y) ⊎ Memᴰ x (take m l) → Memᴰ x (y ∷ take n l)
    go f (inl e) = Memᴰ.head e
    go f (inr v) = Memᴰ.tail (f v)

rule_fits_lem : (t : Tables) → T (sound_policy t) → (i : ℕ) → i < length (policy_of t).rules → T (rule_fits (policy_of t) (rule_numbered (policy_of t) i))
unfolding policy_clauses
rule_fits_lem t h i l = all_of (rule_fits (policy_of t)) (policy_of t).rules (each (policy_clauses t) h).1.1.1.1.1.1.0 (rule_numbered (policy_of t) i) (at_place (policy_of t).rules i _ l)

-- a rule of a sound policy keeps no condition that it does not ask for at grant
membership-asked : (p : Policy) (r : Rule) → T (rule_fits p r) → (c : ℕ) → Memᴰ c (membership r) → Memᴰ c (activating r)
unfolding rule_clauses
membership-asked p r h c m = take_grows r.m r.n r.conditions c (leb→le r.m r.n (each (rule_clauses p r) h).1.0) m

-- a satisfied rule of a sound policy grants a sound row
pub granted-sound : (t : Tables) (w : State) (u q i : ℕ) → T (sound_policy t) → T (ltb u users) → T (ltb q roles) → T (not (active w.rows u q))
    → i < length (policy_of t).rules → T (satisfied (world_of (policy_of t) w) w.rows u q (rule_numbered (policy_of t) i))
    → T (row_sound (world_of (policy_of t) w) w.rows (record { user = u; role = q; rule = i }))
unfolding satisfied supported
granted-sound t w u q i h a b new l s =
    row-sound (world_of (policy_of t) w) w.rows (record { user = u; role = q; rule = i }) a b new (lt→ltb i (length (policy_of t).rules) l)
    (and_left (eqb rule.target q) (all test (activating rule)) s)
    (of_all test (membership rule) (λ c m. all_of test (activating rule) (and_right (eqb rule.target q) (all test (activating rule)) s) c (membership-asked (policy_of t) rule (rule_fits_lem t h i l) c m)))
  where
    rule : Rule
    rule = rule_numbered (policy_of t) i

    test : ℕ → Bool
    test c = holds (world_of (policy_of t) w) w.rows u (meant c)

-- ── a certificate is added ──

-- a sound row is sound in a state that has no less
row_stays : (p : Policy) (few many : State) → Less few many → (earlier : List Row) (r : Row) → T (row_sound (world_of p few) earlier r) → T (row_sound (world_of p many) earlier r)
row_stays p few many l earlier r t =
    row-sound (world_of p many) earlier r (row-user w earlier r t) (row-role w earlier r t) (row_new w earlier r t) (row-rule w earlier r t) (row_target w earlier r t) (less_supports p few many l earlier r (row-supported w earlier r t))
  where
    w : World
    w = world_of p few

pub certificate_added : (p : Policy) (t : State) (c : Certificate) → SoundState p t → length t.certificates < most_certificates → T (certificate_sound p t.certificates c)
    → SoundState p (with_certificates t (t.certificates ++ (c ∷ [])))
certificate_added p t c h room s =
    sound-state p (with_certificates t (t.certificates ++ (c ∷ [])))
    (certificates_fit t (t.certificates ++ (c ∷ [])) h.fits (omega (arith, length_last t.certificates c)))
    (earlier_last (certificate_sound p) t.certificates c (sound-certificates p t h) s)
    (earlier_map (row_sound (world_of p t)) (row_sound (world_of p (with_certificates t (t.certificates ++ (c ∷ [])))))
    (λ earlier r v. row_stays p t (with_certificates t (t.certificates ++ (c ∷ []))) (record { certificates = λ x m. Memᴰ.append_left (c ∷ []) m; facts = λ f v. v }) earlier r v) [] t.rows (sound-rows p t h))

-- ── certificates go, a fact changes, and rows fall ──

-- fewer earlier certificates do not spoil one
certificate_fewer : (p : Policy) (few many : List Certificate) (c : Certificate) → Sublistᴰ few many → T (certificate_sound p many c) → T (certificate_sound p few c)
unfolding certificate_clauses
certificate_fewer p few many c d t =
    let e = each (certificate_clauses p many c) t in
    of_each (certificate_clauses p few c)
    (e.0, (e.1.0, (e.1.1.0, (not_T (any (same_certificate c) few) (λ h. T_not (any (same_certificate c) many) e.1.1.1.0 (any-map (same_certificate c) (same_certificate c) few many (λ x m v. (part-member x few many d m, v)) h)), tt))))

certificates_fewer : (p : Policy) (few many : List Certificate) → Sublistᴰ few many → T (all_over_earlier (certificate_sound p) [] many) → T (all_over_earlier (certificate_sound p) [] few)
certificates_fewer p few many d t = earlier_part (certificate_sound p) (certificate_fewer p) [] [] few many Sublistᴰ.slnil d t

-- whatever became of facts and certificates: with what is left of the rows the state is sound again
pub fallen_sound : (p : Policy) (before after : State) → SoundState p before → Fits after → Sublistᴰ after.certificates before.certificates
    → T (all_over_earlier (row_sound (world_of p before)) [] after.rows) → SoundState p (with_rows after (left (supported (world_of p after)) after.rows))
fallen_sound p before after h f d rows =
    sound-state p (with_rows after rest)
    (rows_fit after rest f (omega (arith, part_length rest after.rows (left-part (supported (world_of p after)) after.rows), f.room_for_rows)))
    (certificates_fewer p after.certificates before.certificates d (sound-certificates p before h))
    (left_earlier (supported (world_of p after)) (row_sound (world_of p before)) (row_sound (world_of p after)) renews after.rows rows)
  where
    rest : List Row
    rest = left (supported (world_of p after)) after.rows

    w : World
    w = world_of p before

    renews : (kept earlier : List Row) (r : Row) → Sublistᴰ kept earlier → T (row_sound w earlier r) → T (supported (world_of p after) kept r) → T (row_sound (world_of p after) kept r)
    renews kept earlier r k t s =
        row-sound (world_of p after) kept r (row-user w earlier r t) (row-role w earlier r t)
        (not_T (active kept r.user r.role) (λ a. T_not (active earlier r.user r.role) (row_new w earlier r t) (active_grows kept earlier r.user r.role (λ x m. part-member x kept earlier k m) a)))
        (row-rule w earlier r t) (row_target w earlier r t) s

-- ── rows of some users go ──

-- the test names users: it takes all the rows of a user, or none
pub record ByUser (gone : Row → Bool) : Type 0 where
  pub alike : (a b : Row) → a.user ≡ b.user → T (gone a) → T (gone b)

pub rows-without-user : (p : Policy) (t : State) (gone : Row → Bool) → ByUser gone → T (all_over_earlier (row_sound (world_of p t)) [] t.rows) → T (all_over_earlier (row_sound (world_of p t)) [] (without gone t.rows))
rows-without-user p t gone by h = earlier_without (row_sound w) gone stays [] t.rows h
  where
    w : World
    w = world_of p t

    still : (earlier : List Row) (r : Row) → T (not (gone r)) → (q : ℕ) → T (active earlier r.user q) → T (active (without gone earlier) r.user q)
    still earlier r n q a =
        let s : (s : Row) × Memᴰ s earlier × T (is_row r.user q s) = active_of earlier r.user q a in
        of_active (without gone earlier) r.user q s.0
        (without-keeps gone earlier s.0 s.1 (not_T (gone s.0) (λ g. T_not (gone r) n (by.alike s.0 r (is_row-user r.user q s.0 s.2) g)))) s.2

    stays : (earlier : List Row) (r : Row) → T (not (gone r)) → T (row_sound w earlier r) → T (row_sound w (without gone earlier) r)
    stays earlier r n t =
        row-sound w (without gone earlier) r (row-user w earlier r t) (row-role w earlier r t)
        (not_T (active (without gone earlier) r.user r.role) (λ a. T_not (active earlier r.user r.role) (row_new w earlier r t) (active_grows (without gone earlier) earlier r.user r.role (λ x m. part-member x _ _ (without-part gone earlier) m) a)))
        (row-rule w earlier r t) (row_target w earlier r t)
        (supported_grows w earlier (without gone earlier) r (λ q m a. still earlier r n q a) (row-supported w earlier r t))

pub users_gone : (p : Policy) (t : State) (gone : Row → Bool) → ByUser gone → SoundState p t → SoundState p (with_rows t (without gone t.rows))
users_gone p t gone by h =
    sound-state p (with_rows t (without gone t.rows))
    (rows_fit t (without gone t.rows) h.fits (omega (arith, part_length (without gone t.rows) t.rows (without-part gone t.rows), h.fits.room_for_rows)))
    (sound-certificates p t h)
    (rows-without-user p t gone by (sound-rows p t h))

-- ── facts ──

set-bits : (l : List ℕ) (i v : ℕ) → T (all is_bit l) → T (is_bit v) → T (all is_bit (set l i v))
set-bits [] i v t b = tt
set-bits (x ∷ l) zero v t b = and_both (is_bit v) (all is_bit l) b (and_right (is_bit x) (all is_bit l) t)
set-bits (x ∷ l) (suc i) v t b = and_both (is_bit x) (all is_bit (set l i v)) (and_left (is_bit x) (all is_bit l) t) (set-bits l i v (and_right (is_bit x) (all is_bit l) t) b)

pub fact-fits : (t : State) (f v : ℕ) → Fits t → T (is_bit v) → Fits (with_fact t f v)
fact-fits t f v h b =
    record {
      all_facts = length-set t.facts f v ∙ h.all_facts;
      bits = set-bits t.facts f v h.bits b;
      room_for_rows = h.room_for_rows;
      room_for_certificates = h.room_for_certificates;
    }

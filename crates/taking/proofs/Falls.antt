-- Revoke, withdraw, environment and logout: what goes, what falls with it, and that the code's answers are the model's.
use Prim.Native.Nat.{ℕ, zero, suc, ◌+◌, ◌≤◌, ◌<◌, ◌/◌}
use mathlib.Core.Path.{◌≡◌, refl, sym, ap, ◌∙◌, subst, subst⁻¹}
use mathlib.Core.Bool.{Bool, true, false, not, ◌&&◌, ◌||◌, cond}
use mathlib.Core.Logic.{◌⊎◌, inl, inr}
use mathlib.Core.List.Memᴰ
use mathlib.Core.List.{List, [], ◌∷◌, ◌++◌, Memᴰ}
use native.Mathlib.Omega.{arith}
use lib.Dec.{T, eqb, ltb, eqb→eq, eqb_refl, lt→ltb, le→leb, T_not, not_T}
use lib.ListN.{length, get_or, set, take, drop, length-take, length-drop, length-append}
use lib.Seq.{get_or-take, get_or-set_same, get_or-set_other, length-take-le}
use borrow.Author.Tests.{lt-ltb, le-ltb, lt-leb}
use Rattle.model.specs.Lists.{any, every, all_over_earlier, without, first_place, is_bit}
use Rattle.model.specs.Limits.{facts, state_size}
use Rattle.model.specs.Values.{Policy, State, world_of, with_rows, with_certificates, with_fact}
use Rattle.model.specs.Layout.{policy_of, decode, encode, certificate_count}
use Rattle.model.specs.Conditions.{kind_numbered, supported}
use Rattle.model.specs.Left.{left}
use Rattle.model.specs.Sound.{same_certificate, certificate_clauses, certificate_sound, row_sound, well_formed}
use Rattle.model.specs.Outcome.{Course, Keeps, first_code, judged_first, decided, given}
use Rattle.model.specs.Calls.{Call, revoke, withdraw, environment, logout, is_user, has_row, stands, of_user, may_revoke, without_certificate, settled, revoke_on, withdraw_on, environment_on, logout_on, course_of, answer}
use Rattle.model.specs.Words.{Fits, Sound, FirstApplies, none, here, later}
use Rattle.std.proofs.Common.{Ok, Err, Some, None, position}
use Rattle.model.specs.Answered.{Answer, code_of, code, second}
use Rattle.model.specs.declared.Reason.{Reason}
use Rattle.model.specs.declared.Reason.TheVariants.{OutOfRange, NoSuchCertificate, MayNotRevoke}
use Rattle.model.specs.declared.Row.{Row}
use Rattle.model.specs.declared.Certificate.{Certificate}
use Rattle.model.proofs.Tests.{decide, and_right, is_true, of_true, of_false, each, of_each, earlier_of, earlier_map, found-any, not_found, of_any}
use Rattle.model.proofs.Chains.{placed, unplaced}
use Rattle.model.proofs.Refusals.{first-applies, only-first}
use Rattle.model.proofs.Parts.{without-none}
use Rattle.model.proofs.Sweep.{left_whole}
use Rattle.model.proofs.Support.{Less, less_supports, row-supported}
use Rattle.model.proofs.Numbers.{decode-encode, decode-fits, encode_formed, sound-decode}
use Rattle.model.proofs.Kept.{sound-certificates, sound-rows, fact-fits, certificates_fit}
use Rattle.table.specs.Entries.{world_at, without_rights}
use Rattle.table.proofs.Entries.{sized}
use Rattle.table.proofs.Worlds.{supported-same}
use Rattle.marks.specs.Owned.{InRange}
use Rattle.fall.specs.Pass.{RowsLeft}
use Rattle.inner.specs.Promise.{lent, Answers}
use Rattle.inner.proofs.Codes.{not_accepted, own_decide, own_refuses, own_accepts, out_of_range_lem, in_range, found, certificate-length, no_kind_lem, some_kind}
use Rattle.taking.specs.Fallen.{all_supported, Fallen, fallen_rows}
use Rattle.taking.specs.Taken.{taken_on, Comes}

-- ── a change, and the fall after it ──

pub encoded_formed : (s₁ : List ℕ) (v : State) → s₁ ≡ encode v → Fits v → well_formed s₁ ≡ true
encoded_formed s₁ v e f = is_true (well_formed s₁) (subst⁻¹ (λ (l : List ℕ). T (well_formed l)) e (encode_formed v f))

-- what is changed holds no row and no certificate that was not there
pub encoded_in_range : (s s₁ : List ℕ) (v : State) → s₁ ≡ encode v → Fits v → InRange s → ((r : Row) → Memᴰ r v.rows → Memᴰ r (decode s).rows) → ((c : Certificate) → Memᴰ c v.certificates → Memᴰ c (decode s).certificates) → InRange s₁
encoded_in_range s s₁ v e f r a b =
    let q : decode s₁ ≡ v = ap decode e ∙ decode-encode v f in
    record {
      sized = sized s₁ (encoded_formed s₁ v e f);
      rows = λ x m. r.rows x (a x (subst (λ (y : State). Memᴰ x y.rows) q m));
      certificates = λ x m. r.certificates x (b x (subst (λ (y : State). Memᴰ x y.certificates) q m));
    }

-- a list with one element left out
pub one_less_member : {A : Type 0} (xs : List A) (j : ℕ) (x : A) → Memᴰ x (take j xs ++ drop (suc j) xs) → Memᴰ x xs
one_less_member [] zero x m = m
one_less_member [] (suc j) x m = m
one_less_member (y ∷ xs) zero x m = Memᴰ.tail m
one_less_member (y ∷ xs) (suc j) x m = go (one_less_member xs j x) (Memᴰ.cases_cons m)
  where
    go : (Memᴰ x (take j xs ++ drop (suc j) xs) → Memᴰ x xs) → (x ≡ y) ⊎ Memᴰ x (take j xs ++ drop (suc j) xs) → Memᴰ x (y ∷ xs)
    go deeper (inl e) = Memᴰ.head e
    go deeper (inr h) = Memᴰ.tail (deeper h)

pub fallen_after : (rules kinds s₁ s' : List ℕ) (v : State) (lost : ℕ) → s₁ ≡ encode v → Fits v → RowsLeft s₁ s' (left (supported (world_at rules kinds s₁)) (decode s₁).rows) lost → Fallen rules kinds v s' lost
fallen_after rules kinds s₁ s' v lost e f l =
    let q : decode s₁ ≡ v = ap decode e ∙ decode-encode v f in
    record {
      state = l.state ∙ ap (λ (x : State). encode (with_rows x (fallen_rows rules kinds x))) q;
      count = subst (λ (x : State). lost + length (fallen_rows rules kinds x) ≡ length x.rows) q l.count;
    }

pub one_less_fits : (t : State) (j : ℕ) → Fits t → Fits (with_certificates t (take j t.certificates ++ drop (suc j) t.certificates))
one_less_fits t j f =
    certificates_fit t (take j t.certificates ++ drop (suc j) t.certificates) f
    (omega (arith, length-append (take j t.certificates) (drop (suc j) t.certificates), length-take j t.certificates, length-drop (suc j) t.certificates, f.room_for_certificates))

-- ── a fact that does not go ──

pub fact-set-fits : (s : List ℕ) (f v : ℕ) → well_formed s ≡ true → v ≤ 1 → Fits (with_fact (decode s) f v)
fact-set-fits s f v w l = fact-fits (decode s) f v (decode-fits s (of_true (well_formed s) w)) (le→leb v 1 l)

-- with a fact that is no lower than it was, no fact is lost
fact_less : (s : List ℕ) (f v : ℕ) → length s ≡ state_size → f < 64 → v ≤ 1 → get_or s f 0 ≤ v → Less (decode s) (with_fact (decode s) f v)
unfolding decode
fact_less s f v size a b l = record { certificates = λ c m. m; facts = λ g t. go g (decide (eqb g f)) t }
  where
    go : (g : ℕ) → T (eqb g f) ⊎ T (not (eqb g f)) → T (eqb (get_or (take 64 s) g 0) 1) → T (eqb (get_or (set (take 64 s) f v) g 0) 1)
    go g (inl e) t =
        let p : g ≡ f = eqb→eq g f e in
        let was : get_or s f 0 ≡ 1 = sym (ap (λ (n : ℕ). get_or (take 64 s) n 0) p ∙ get_or-take 64 s f 0 a) ∙ eqb→eq (get_or (take 64 s) g 0) 1 t in
        let is : v ≡ 1 = omega arith in
        subst⁻¹ (λ (n : ℕ). T (eqb n 1)) (ap (λ (n : ℕ). get_or (set (take 64 s) f v) n 0) p ∙ get_or-set_same (take 64 s) f v 0 (omega (arith, length-take-le 64 s (omega arith))) ∙ is) tt
    go g (inr n) t = subst⁻¹ (λ (m : ℕ). T (eqb m 1)) (get_or-set_other (take 64 s) f g v 0 (λ q. T_not (eqb g f) n (subst (λ (m : ℕ). T (eqb g m)) q (eqb_refl g)))) t

-- and where each row has its support, none falls
pub none-falls : (rules kinds s s' : List ℕ) (f v : ℕ) → length s ≡ state_size → all_supported rules kinds (decode s) ≡ true → f < 64 → v ≤ 1 → get_or s f 0 ≤ v → s' ≡ encode (with_fact (decode s) f v) → Fallen rules kinds (with_fact (decode s) f v) s' 0
none-falls rules kinds s s' f v size t a b l e = record { state = e ∙ ap (λ (rows : List Row). encode (with_rows (with_fact (decode s) f v) rows)) (sym all_left); count = omega (arith, ap length all_left) }
  where
    under : State → List Row → Row → Bool
    under x = supported (world_of (policy_of (without_rights rules kinds)) x)

    all_left : fallen_rows rules kinds (with_fact (decode s) f v) ≡ (decode s).rows
    all_left =
        left_whole (under (with_fact (decode s) f v)) (decode s).rows
        (earlier_map (under (decode s)) (under (with_fact (decode s) f v)) (less_supports (policy_of (without_rights rules kinds)) (decode s) (with_fact (decode s) f v) (fact_less s f v size a b l)) [] (decode s).rows (of_true (all_supported rules kinds (decode s)) t))

-- ── the certificate at its first place is the only one of its sort ──

same_again : (c x y : Certificate) → T (same_certificate c x) → T (same_certificate c y) → T (same_certificate y x)
same_again c x y a b =
    let p = each (eqb c.appointee x.appointee ∷ eqb c.kind x.kind ∷ eqb c.appointer x.appointer ∷ []) a in
    let q = each (eqb c.appointee y.appointee ∷ eqb c.kind y.kind ∷ eqb c.appointer y.appointer ∷ []) b in
    of_each (eqb y.appointee x.appointee ∷ eqb y.kind x.kind ∷ eqb y.appointer x.appointer ∷ []) (
      subst (λ (n : ℕ). T (eqb n x.appointee)) (eqb→eq c.appointee y.appointee q.0) p.0,
      (
        subst (λ (n : ℕ). T (eqb n x.kind)) (eqb→eq c.kind y.kind q.1.0) p.1.0,
        (subst (λ (n : ℕ). T (eqb n x.appointer)) (eqb→eq c.appointer y.appointer q.1.1.0) p.1.1.0, tt),
      ),
    )

without-first : (p : Policy) (c : Certificate) (earlier l : List Certificate) → T (all_over_earlier (certificate_sound p) earlier l) → T (any (same_certificate c) l)
    → without (same_certificate c) l ≡ take (first_place (same_certificate c) l) l ++ drop (suc (first_place (same_certificate c) l)) l
unfolding certificate_clauses
without-first p c earlier [] t a = absurd a
without-first p c earlier (x ∷ l) t a = go (same_certificate c x) refl a (λ v. without-first p c (earlier ++ (x ∷ [])) l rest v)
  where
    rest : T (all_over_earlier (certificate_sound p) (earlier ++ (x ∷ [])) l)
    rest = and_right (certificate_sound p earlier x) (all_over_earlier (certificate_sound p) (earlier ++ (x ∷ [])) l) t

    -- nothing behind is the same certificate once more
    alone : T (same_certificate c x) → (y : Certificate) → Memᴰ y l → T (not (same_certificate c y))
    alone s y m =
        not_T (same_certificate c y)
        (λ v.
        let e = earlier_of (certificate_sound p) (earlier ++ (x ∷ [])) l rest y m in
        T_not (any (same_certificate y) ((earlier ++ (x ∷ [])) ++ e.0)) (each (certificate_clauses p ((earlier ++ (x ∷ [])) ++ e.0) y) e.3).1.1.1.0
        (of_any (same_certificate y) x ((earlier ++ (x ∷ [])) ++ e.0) (Memᴰ.append_left e.0 (Memᴰ.append_right earlier (Memᴰ.head refl))) (same_again c x y s v)))

    go : (b : Bool) → same_certificate c x ≡ b → T (b || any (same_certificate c) l) → (T (any (same_certificate c) l) → without (same_certificate c) l ≡ take (first_place (same_certificate c) l) l ++ drop (suc (first_place (same_certificate c) l)) l)
        → cond b (without (same_certificate c) l) (x ∷ without (same_certificate c) l) ≡ take (cond b 0 (suc (first_place (same_certificate c) l))) (x ∷ l) ++ drop (suc (cond b 0 (suc (first_place (same_certificate c) l)))) (x ∷ l)
    go true e v f = without-none (same_certificate c) l (alone (of_true (same_certificate c x) e))
    go false e v f = ap (λ (r : List Certificate). x ∷ r) (f v)

-- ── the model's effect ──

-- what is left does not depend on the rights
same-fall : (rules kinds rights : List ℕ) (v : State) → fallen_rows rules kinds v ≡ left (supported (world_of (policy_of (lent rules kinds rights)) v)) v.rows
unfolding policy_of
same-fall rules kinds rights v = λ i. left (supported-same (policy_of (without_rights rules kinds)) (policy_of (lent rules kinds rights)) v refl refl i) v.rows

-- a course that is refused, and one that is not
refused_comes : (course : Course) (s : List ℕ) (reason : Reason) → FirstApplies course.refusals (code_of reason) → Comes course s (Err reason) s
unfolding decided
refused_comes course s reason f = subst (λ (n : ℕ). Keeps (decided n s [] course.effect) (code_of reason) 0 s []) (only-first f) (go (code_of reason) (not_accepted reason))
  where
    go : (n : ℕ) → 0 < n → Keeps (decided n s [] course.effect) n 0 s []
    go zero p = absurd (omega arith)
    go (suc n) p = record { code_kept = refl; second_kept = refl; state_kept = refl; list_kept = refl }

accepted_comes : (course : Course) (s s' : List ℕ) (n : ℕ) → FirstApplies course.refusals 0 → n ≡ course.effect.second → s' ≡ encode course.effect.state → [] ≡ course.effect.list → Comes course s (Ok n) s'
unfolding decided
accepted_comes course s s' n f a b l = subst (λ (m : ℕ). Keeps (decided m s [] course.effect) 0 n s' []) (only-first f) (record { code_kept = refl; second_kept = a; state_kept = b; list_kept = l })

module _ (rules kinds rights s : List ℕ) (h : Sound (lent rules kinds rights) s) where
  -- on sound tables a call comes to what its own course comes to
  on_sound : (c : Call) (course : Course) → course_of (lent rules kinds rights) s [] c ≡ judged_first (lent rules kinds rights) s course → (r : Answer) (s' : List ℕ) → Comes course s r s' → Answers (lent rules kinds rights) s c r s'
  unfolding answer judged_first
  on_sound c course is r s' k =
      subst (λ (x : Course). Keeps (decided (first_code x.refusals) s [] x.effect) (code r) (second r) s' []) (sym is)
      (subst (λ (n : ℕ). Keeps (decided n s [] course.effect) (code r) (second r) s' []) (only-first (own_decide (lent rules kinds rights) s h course (first-applies course.refusals))) k)

  -- each row of a sound state has its support
  pub sound-supported : all_supported rules kinds (decode s) ≡ true
  unfolding policy_of
  sound-supported =
      let world = world_of (policy_of (lent rules kinds rights)) (decode s) in
      is_true (all_supported rules kinds (decode s))
      (subst (λ (test : List Row → Row → Bool). T (all_over_earlier test [] (decode s).rows)) (supported-same (policy_of (lent rules kinds rights)) (policy_of (without_rights rules kinds)) (decode s) refl refl)
      (earlier_map (row_sound world) (supported world) (λ earlier r v. row-supported world earlier r v) [] (decode s).rows (sound-rows (policy_of (lent rules kinds rights)) (decode s) (sound-decode (policy_of (lent rules kinds rights)) s h.state))))

  -- ── the certificate c, found at j ──

  module _ (c : Certificate) (allowed : Bool) where
    abbrev away : Course
    away = taken_on (given (lent rules kinds rights) s []) c allowed

    away_out : (i : ℕ) → get_or (is_user c.appointee ∷ has_row (policy_of (lent rules kinds rights)) c.kind ∷ is_user c.appointer ∷ []) i true ≡ false → Comes away s (Err OutOfRange) s
    away_out i o = refused_comes away s OutOfRange (here (out_of_range_lem (is_user c.appointee ∷ has_row (policy_of (lent rules kinds rights)) c.kind ∷ is_user c.appointer ∷ []) i o))

    pub away-no-appointee : 4096 ≤ c.appointee → Comes away s (Err OutOfRange) s
    away-no-appointee l = away_out 0 (le-ltb c.appointee 4096 l)

    pub away-no-kind : length kinds / 7 ≤ c.kind → Comes away s (Err OutOfRange) s
    away-no-kind l = away_out 1 (no_kind_lem rules kinds rights c.kind l)

    pub away-no-appointer : 4096 ≤ c.appointer → Comes away s (Err OutOfRange) s
    away-no-appointer l = away_out 2 (le-ltb c.appointer 4096 l)

    module _ (in₁ : c.appointee < 4096) (in₂ : c.kind < length kinds / 7) (in₃ : c.appointer < 4096) where
      range : T (not (not (every (is_user c.appointee ∷ has_row (policy_of (lent rules kinds rights)) c.kind ∷ is_user c.appointer ∷ []))))
      range = in_range (is_user c.appointee ∷ has_row (policy_of (lent rules kinds rights)) c.kind ∷ is_user c.appointer ∷ []) (lt→ltb c.appointee 4096 in₁, (some_kind rules kinds rights c.kind in₂, (lt→ltb c.appointer 4096 in₃, tt)))

      pub away_none : None ≡ position (same_certificate c) (decode s).certificates → Comes away s (Err NoSuchCertificate) s
      away_none at = refused_comes away s NoSuchCertificate (later range (here (of_false (stands (decode s) c) (not_found (same_certificate c) (decode s).certificates (unplaced (same_certificate c) (decode s).certificates (sym at))))))

      module _ (j : ℕ) (at : Some j ≡ position (same_certificate c) (decode s).certificates) where
        first : (j ≡ first_place (same_certificate c) (decode s).certificates) × (j < length (decode s).certificates)
        first = placed (same_certificate c) (decode s).certificates j (sym at)

        pub exists : j < certificate_count s
        exists = omega (arith, first.1, certificate-length s)

        it_stands : stands (decode s) c ≡ true
        it_stands = found-any (same_certificate c) (decode s).certificates (omega (arith, first.0, first.1))

        pub away_forbidden : allowed ≡ false → Comes away s (Err MayNotRevoke) s
        away_forbidden e = refused_comes away s MayNotRevoke (later range (later (found _ it_stands) (here (of_false allowed e))))

        gone : take j (decode s).certificates ++ drop (suc j) (decode s).certificates ≡ without (same_certificate c) (decode s).certificates
        gone =
            ap (λ (n : ℕ). take n (decode s).certificates ++ drop (suc n) (decode s).certificates) first.0
            ∙ sym (without-first (policy_of (lent rules kinds rights)) c [] (decode s).certificates (sound-certificates (policy_of (lent rules kinds rights)) (decode s) (sound-decode (policy_of (lent rules kinds rights)) s h.state)) (of_true (stands (decode s) c) it_stands))

        -- it goes and the rows fall: the numbers are the effect's
        pub away_done : (s' : List ℕ) (n : ℕ) → allowed ≡ true → Fallen rules kinds (with_certificates (decode s) (take j (decode s).certificates ++ drop (suc j) (decode s).certificates)) s' n → Comes away s (Ok n) s'
        unfolding settled
        away_done s' n e f =
            let fell : Fallen rules kinds (without_certificate (decode s) c) s' n = subst (λ (l : List Certificate). Fallen rules kinds (with_certificates (decode s) l) s' n) gone f in
            accepted_comes away s s' n (later range (later (found _ it_stands) (later (found allowed e) none)))
            (omega (arith, fell.count, ap length (same-fall rules kinds rights (without_certificate (decode s) c))))
            (fell.state ∙ ap (λ (rows : List Row). encode (with_rows (without_certificate (decode s) c) rows)) (same-fall rules kinds rights (without_certificate (decode s) c))) refl

  -- ── revoke and withdraw ──

  module _ (a k b : ℕ) (r : Answer) (s' : List ℕ) where
    pub withdrawn : Comes (taken_on (given (lent rules kinds rights) s []) (record { appointee = a; kind = k; appointer = b }) true) s r s' → Answers (lent rules kinds rights) s (withdraw a k b) r s'
    unfolding course_of withdraw_on
    withdrawn = on_sound (withdraw a k b) _ refl r s'

    -- a caller in range is one test fewer
    pub revoked : (caller : ℕ) (allowed : Bool) → caller < 4096 → allowed ≡ may_revoke (decode s).rows (kind_numbered (policy_of (without_rights [] kinds)) k) caller b → Comes (taken_on (given (lent rules kinds rights) s []) (record { appointee = a; kind = k; appointer = b }) allowed) s r s'
        → Answers (lent rules kinds rights) s (revoke caller a k b) r s'
    unfolding course_of revoke_on policy_of
    revoked caller allowed in₀ e x =
        on_sound (revoke caller a k b) _ refl r s'
        (subst (λ (n : ℕ). Keeps (decided n s [] (settled (given (lent rules kinds rights) s []) (without_certificate (decode s) (record { appointee = a; kind = k; appointer = b })))) (code r) (second r) s' [])
        (λ i. cond (not (sym (lt-ltb caller 4096 in₀) i && every (is_user a ∷ has_row (policy_of (lent rules kinds rights)) k ∷ is_user b ∷ []))) 3 (cond (not (stands (decode s) (record { appointee = a; kind = k; appointer = b }))) 9 (cond (not (e i)) 10 0))) x)

  pub revoke-out : (caller a k b : ℕ) → 4096 ≤ caller → Answers (lent rules kinds rights) s (revoke caller a k b) (Err OutOfRange) s
  unfolding course_of revoke_on
  revoke-out caller a k b l = own_refuses (lent rules kinds rights) s [] h (revoke caller a k b) _ refl OutOfRange (here (out_of_range_lem (is_user caller ∷ is_user a ∷ has_row (policy_of (lent rules kinds rights)) k ∷ is_user b ∷ []) 0 (le-ltb caller 4096 l)))

  -- ── environment and logout ──

  module _ (f v : ℕ) where
    environment-out : (i : ℕ) → get_or (ltb f facts ∷ is_bit v ∷ []) i true ≡ false → Answers (lent rules kinds rights) s (environment f v) (Err OutOfRange) s
    unfolding course_of environment_on
    environment-out i e = own_refuses (lent rules kinds rights) s [] h (environment f v) _ refl OutOfRange (here (out_of_range_lem (ltb f facts ∷ is_bit v ∷ []) i e))

    pub environment-no-fact : 64 ≤ f → Answers (lent rules kinds rights) s (environment f v) (Err OutOfRange) s
    environment-no-fact l = environment-out 0 (le-ltb f 64 l)

    pub environment-no-bit : 1 < v → Answers (lent rules kinds rights) s (environment f v) (Err OutOfRange) s
    environment-no-bit l = environment-out 1 (lt-leb v 1 l)

    pub environment_done : (s' : List ℕ) (n : ℕ) → f < 64 → v ≤ 1 → Fallen rules kinds (with_fact (decode s) f v) s' n → Answers (lent rules kinds rights) s (environment f v) (Ok n) s'
    unfolding course_of environment_on settled
    environment_done s' n a b e =
        own_accepts (lent rules kinds rights) s [] h (environment f v) _ refl n s' [] (later (in_range (ltb f facts ∷ is_bit v ∷ []) (lt→ltb f 64 a, (le→leb v 1 b, tt))) none)
        (omega (arith, e.count, ap length (same-fall rules kinds rights (with_fact (decode s) f v))))
        (e.state ∙ ap (λ (rows : List Row). encode (with_rows (with_fact (decode s) f v) rows)) (same-fall rules kinds rights (with_fact (decode s) f v))) refl

  module _ (u : ℕ) where
    pub logout-out : 4096 ≤ u → Answers (lent rules kinds rights) s (logout u) (Err OutOfRange) s
    unfolding course_of logout_on
    logout-out l = own_refuses (lent rules kinds rights) s [] h (logout u) _ refl OutOfRange (here (out_of_range_lem (is_user u ∷ []) 0 (le-ltb u 4096 l)))

    pub logout_done : (s' : List ℕ) (n : ℕ) → u < 4096 → RowsLeft s s' (without (of_user u) (decode s).rows) n → Answers (lent rules kinds rights) s (logout u) (Ok n) s'
    unfolding course_of logout_on
    logout_done s' n a e = own_accepts (lent rules kinds rights) s [] h (logout u) _ refl n s' [] (later (in_range (is_user u ∷ []) (lt→ltb u 4096 a, tt)) none) (omega (arith, e.count)) e.state refl

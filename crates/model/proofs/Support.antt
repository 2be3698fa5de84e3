-- What it takes to support a row, and that the definitions meet what the order theory asks: more rows and a richer state support no
-- less, and in a sound state a row is served only by rows before it.
use Prim.Native.Nat.{ℕ}
use mathlib.Core.Path.{◌≡◌, refl, subst, subst⁻¹}
use mathlib.Core.Bool.{Bool, true, false, not}
use mathlib.Core.Logic.{◌⊎◌, inl, inr}
use mathlib.Core.List.{List, [], ◌∷◌, ◌++◌, Memᴰ}
use lib.Dec.{T, eqb, ltb, eqb→eq, T_not}
use lib.ListN.{length, get_or}
use Rattle.model.specs.Lists.{all, all_over_earlier, joined}
use Rattle.model.specs.Values.{Policy, State, World, world_of}
use Rattle.model.specs.Conditions.{Condition, role, kind, fact, malformed, meant, rule_numbered, kind_numbered, membership, prerequisite_roles, is_row, active, stands_for, some_stands, holds, supported, roles_asked, rests_on}
use Rattle.model.specs.Sound.{row_clauses, row_sound}
use Rattle.model.specs.Limits.{users, roles}
use Rattle.model.specs.declared.Row.{Row}
use Rattle.model.specs.declared.Certificate.{Certificate}
use Rattle.model.proofs.Tests.{and_left, and_right, and_both, any_of, of_any, any-map, all_of, of_all, each, of_each, earlier_of}
use Rattle.model.proofs.Parts.{part-front, part-member}
use Rattle.model.proofs.Sweep.{Support, Ordered, Stricter}

-- ── joined lists ──

module _ {A B : Type 0} where
  pub joined_of : (f : A → List B) (xs : List A) (y : B) → Memᴰ y (joined f xs) → (x : A) × Memᴰ x xs × Memᴰ y (f x)
  joined_of f [] y m = absurd (mathlib.Core.List.Memᴰ.not-nil m)
  joined_of f (x ∷ xs) y m = go (λ u. joined_of f xs y u) (mathlib.Core.List.Memᴰ.append_cases (f x) m)
    where
      deeper : (z : A) × Memᴰ z xs × Memᴰ y (f z) → (z : A) × Memᴰ z (x ∷ xs) × Memᴰ y (f z)
      deeper h = (h.0, mathlib.Core.List.Memᴰ.tail h.1, h.2)

      go : (Memᴰ y (joined f xs) → (z : A) × Memᴰ z xs × Memᴰ y (f z)) → Memᴰ y (f x) ⊎ Memᴰ y (joined f xs) → (z : A) × Memᴰ z (x ∷ xs) × Memᴰ y (f z)
      go later (inl h) = (x, mathlib.Core.List.Memᴰ.head refl, h)
      go later (inr h) = deeper (later h)

  pub of_joined : (f : A → List B) (xs : List A) (x : A) (y : B) → Memᴰ x xs → Memᴰ y (f x) → Memᴰ y (joined f xs)
  of_joined f [] x y m k = absurd (mathlib.Core.List.Memᴰ.not-nil m)
  of_joined f (z ∷ xs) x y m k = go (λ u. of_joined f xs x y u k) (mathlib.Core.List.Memᴰ.cases_cons m)
    where
      go : (Memᴰ x xs → Memᴰ y (joined f xs)) → (x ≡ z) ⊎ Memᴰ x xs → Memᴰ y (f z ++ joined f xs)
      go later (inl e) = mathlib.Core.List.Memᴰ.append_left (joined f xs) (subst (λ (v : A). Memᴰ y (f v)) e k)
      go later (inr h) = mathlib.Core.List.Memᴰ.append_right (f z) (later h)

-- ── active, in words ──

pub is_row-user : (u q : ℕ) (r : Row) → T (is_row u q r) → r.user ≡ u
is_row-user u q r t = eqb→eq r.user u (and_left (eqb r.user u) (eqb r.role q) t)

pub is_row-role : (u q : ℕ) (r : Row) → T (is_row u q r) → r.role ≡ q
is_row-role u q r t = eqb→eq r.role q (and_right (eqb r.user u) (eqb r.role q) t)

pub active_of : (rows : List Row) (u q : ℕ) → T (active rows u q) → (r : Row) × Memᴰ r rows × T (is_row u q r)
unfolding active
active_of rows u q t = any_of (is_row u q) rows t

pub of_active : (rows : List Row) (u q : ℕ) (r : Row) → Memᴰ r rows → T (is_row u q r) → T (active rows u q)
unfolding active
of_active rows u q r m t = of_any (is_row u q) r rows m t

pub active_grows : (xs ys : List Row) (u q : ℕ) → ((r : Row) → Memᴰ r xs → Memᴰ r ys) → T (active xs u q) → T (active ys u q)
unfolding active
active_grows xs ys u q f t = any-map (is_row u q) (is_row u q) xs ys (λ r m h. (f r m, h)) t

-- ── a condition is a part that reads no rows, and roles that must be active ──

rowless : World → ℕ → Condition → Bool
rowless w u (role q) = true
rowless w u (kind k) = some_stands w.certificates u k
rowless w u (fact f) = eqb (get_or w.facts f 0) 1
rowless w u malformed = false

holds_rowless : (w : World) (rows : List Row) (u : ℕ) (c : Condition) → T (holds w rows u c) → T (rowless w u c)
unfolding holds rowless
holds_rowless w rows u (role q) t = tt
holds_rowless w rows u (kind k) t = and_left (some_stands w.certificates u k) (all (active rows u) (prerequisite_roles (kind_numbered w.policy k))) t
holds_rowless w rows u (fact f) t = t
holds_rowless w rows u malformed t = t

holds-roles : (w : World) (rows : List Row) (u : ℕ) (c : Condition) → T (holds w rows u c) → (q : ℕ) → Memᴰ q (roles_asked w.policy c) → T (active rows u q)
unfolding holds roles_asked
holds-roles w rows u (role q) t x m = subst⁻¹ (λ (n : ℕ). T (active rows u n)) (mathlib.Core.List.Memᴰ.eq_of_singleton m) t
holds-roles w rows u (kind k) t x m = all_of (active rows u) (prerequisite_roles (kind_numbered w.policy k)) (and_right (some_stands w.certificates u k) (all (active rows u) (prerequisite_roles (kind_numbered w.policy k))) t) x m
holds-roles w rows u (fact f) t x m = absurd (mathlib.Core.List.Memᴰ.not-nil m)
holds-roles w rows u malformed t x m = absurd t

of_holds : (w : World) (rows : List Row) (u : ℕ) (c : Condition) → T (rowless w u c) → ((q : ℕ) → Memᴰ q (roles_asked w.policy c) → T (active rows u q)) → T (holds w rows u c)
unfolding holds rowless roles_asked
of_holds w rows u (role q) t h = h q (mathlib.Core.List.Memᴰ.head refl)
of_holds w rows u (kind k) t h = and_both (some_stands w.certificates u k) (all (active rows u) (prerequisite_roles (kind_numbered w.policy k))) t (of_all (active rows u) (prerequisite_roles (kind_numbered w.policy k)) h)
of_holds w rows u (fact f) t h = t
of_holds w rows u malformed t h = t

-- ── a row is supported by what reads no rows, and by the roles on which it rests ──

abbrev pub own_conditions : Policy → Row → List ℕ
own_conditions p r = membership (rule_numbered p r.rule)

-- a row rests on roles in which its user is active
pub rests_on_active : (w : World) (rows : List Row) (r : Row) → T (supported w rows r) → (q : ℕ) → Memᴰ q (rests_on w.policy r) → T (active rows r.user q)
unfolding supported rests_on
rests_on_active w rows r t q m =
    let h : (c : ℕ) × Memᴰ c (own_conditions w.policy r) × Memᴰ q (roles_asked w.policy (meant c)) = joined_of (λ (c : ℕ). roles_asked w.policy (meant c)) (own_conditions w.policy r) q m in
    holds-roles w rows r.user (meant h.0) (all_of (λ (c : ℕ). holds w rows r.user (meant c)) (own_conditions w.policy r) t h.0 h.1) q h.2

-- what is supported stays so, where what reads no rows still holds and the roles on which it rests are still active
supported_moves : (w₁ w₂ : World) (xs ys : List Row) (r : Row) → w₁.policy ≡ w₂.policy → ((c : Condition) → T (rowless w₁ r.user c) → T (rowless w₂ r.user c))
    → ((q : ℕ) → Memᴰ q (rests_on w₁.policy r) → T (active xs r.user q) → T (active ys r.user q)) → T (supported w₁ xs r) → T (supported w₂ ys r)
unfolding supported rests_on
supported_moves w₁ w₂ xs ys r same f g t =
    of_all (λ (c : ℕ). holds w₂ ys r.user (meant c)) (own_conditions w₂.policy r) (λ c m. one c (subst⁻¹ (λ (p : Policy). Memᴰ c (own_conditions p r)) same m))
  where
    rests : (c : ℕ) → Memᴰ c (own_conditions w₁.policy r) → (q : ℕ) → Memᴰ q (roles_asked w₁.policy (meant c)) → Memᴰ q (rests_on w₁.policy r)
    rests c m q k = of_joined (λ (d : ℕ). roles_asked w₁.policy (meant d)) (own_conditions w₁.policy r) c q m k

    one : (c : ℕ) → Memᴰ c (own_conditions w₁.policy r) → T (holds w₂ ys r.user (meant c))
    one c m =
        let h : T (holds w₁ xs r.user (meant c)) = all_of (λ (d : ℕ). holds w₁ xs r.user (meant d)) (own_conditions w₁.policy r) t c m in
        of_holds w₂ ys r.user (meant c) (f (meant c) (holds_rowless w₁ xs r.user (meant c) h))
        (λ q k.
        let k₁ : Memᴰ q (roles_asked w₁.policy (meant c)) = subst⁻¹ (λ (p : Policy). Memᴰ q (roles_asked p (meant c))) same k in
        g q (rests c m q k₁) (holds-roles w₁ xs r.user (meant c) h q k₁))

pub supported_grows : (w : World) (xs ys : List Row) (r : Row) → ((q : ℕ) → Memᴰ q (rests_on w.policy r) → T (active xs r.user q) → T (active ys r.user q)) → T (supported w xs r) → T (supported w ys r)
supported_grows w xs ys r g t = supported_moves w w xs ys r refl (λ c h. h) g t

-- s can serve r: it is a row of the same user, in a role on which r rests
pub record Serves (p : Policy) (s r : Row) : Type 0 where
  pub same : s.user ≡ r.user
  pub wanted : Memᴰ s.role (rests_on p r)

pub support : (w : World) → Support (supported w) (Serves w.policy)
support w =
    record {
      grows = λ xs ys r f t. supported_grows w xs ys r (λ q m h. active_grows xs ys r.user q f h) t;
      local = λ xs ys r none t. supported_grows w (xs ++ ys) xs r (λ q m h. early xs ys r none q m h) t;
    }
  where
    early : (xs ys : List Row) (r : Row) → ((s : Row) → Memᴰ s ys → Serves w.policy s r → ⊥) → (q : ℕ) → Memᴰ q (rests_on w.policy r) → T (active (xs ++ ys) r.user q) → T (active xs r.user q)
    early xs ys r none q m h = go found.0 found.2 (mathlib.Core.List.Memᴰ.append_cases xs found.1)
      where
        found : (s : Row) × Memᴰ s (xs ++ ys) × T (is_row r.user q s)
        found = active_of (xs ++ ys) r.user q h

        go : (s : Row) → T (is_row r.user q s) → Memᴰ s xs ⊎ Memᴰ s ys → T (active xs r.user q)
        go s i (inl k) = of_active xs r.user q s k i
        go s i (inr k) = absurd (none s k (record { same = is_row-user r.user q s i; wanted = subst⁻¹ (λ (n : ℕ). Memᴰ n (rests_on w.policy r)) (is_row-role r.user q s i) m }))

-- ── the clauses of a sound row ──

module _ (w : World) (earlier : List Row) (r : Row) (t : T (row_sound w earlier r)) where
  pub row-user : T (ltb r.user users)
  unfolding row_clauses
  row-user = (each (row_clauses w earlier r) t).0

  pub row-role : T (ltb r.role roles)
  unfolding row_clauses
  row-role = (each (row_clauses w earlier r) t).1.0

  pub row_new : T (not (active earlier r.user r.role))
  unfolding row_clauses
  row_new = (each (row_clauses w earlier r) t).1.1.0

  pub row-rule : T (ltb r.rule (length w.policy.rules))
  unfolding row_clauses
  row-rule = (each (row_clauses w earlier r) t).1.1.1.0

  pub row_target : T (eqb (rule_numbered w.policy r.rule).target r.role)
  unfolding row_clauses
  row_target = (each (row_clauses w earlier r) t).1.1.1.1.0

  pub row-supported : T (supported w earlier r)
  unfolding row_clauses
  row-supported = (each (row_clauses w earlier r) t).1.1.1.1.1.0

pub row-sound : (w : World) (earlier : List Row) (r : Row) → T (ltb r.user users) → T (ltb r.role roles) → T (not (active earlier r.user r.role))
    → T (ltb r.rule (length w.policy.rules)) → T (eqb (rule_numbered w.policy r.rule).target r.role) → T (supported w earlier r) → T (row_sound w earlier r)
unfolding row_clauses
row-sound w earlier r a b c d e f = of_each (row_clauses w earlier r) (a, (b, (c, (d, (e, (f, tt))))))

-- ── in a sound state no row serves itself or one before it ──

pub ordered : (w : World) (earlier rows : List Row) → T (all_over_earlier (row_sound w) earlier rows) → Ordered (Serves w.policy) rows
ordered w earlier [] t = tt
ordered w earlier (r ∷ rs) t = (first, ordered w (earlier ++ (r ∷ [])) rs (and_right (row_sound w earlier r) (all_over_earlier (row_sound w) (earlier ++ (r ∷ [])) rs) t))
  where
    first : (s : Row) → Memᴰ s (r ∷ rs) → Serves w.policy s r → ⊥
    first s m v =
        let h : (before : List Row) × (after : List Row) × (r ∷ rs ≡ before ++ (s ∷ after)) × T (row_sound w (earlier ++ before) s) = earlier_of (row_sound w) earlier (r ∷ rs) t s m in
        let a : T (active earlier r.user s.role) = rests_on_active w earlier r (row-supported w earlier r (and_left (row_sound w earlier r) (all_over_earlier (row_sound w) (earlier ++ (r ∷ [])) rs) t)) s.role v.wanted in
        T_not (active (earlier ++ h.0) s.user s.role) (row_new w (earlier ++ h.0) s h.3)
        (active_grows earlier (earlier ++ h.0) s.user s.role (λ x k. part-member x earlier _ (part-front earlier h.0) k) (subst⁻¹ (λ (n : ℕ). T (active earlier n s.role)) v.same a))

-- ── fewer certificates and fewer true facts support no more ──

pub record Less (few many : State) : Type 0 where
  pub certificates : (c : Certificate) → Memᴰ c few.certificates → Memᴰ c many.certificates
  pub facts : (f : ℕ) → T (eqb (get_or few.facts f 0) 1) → T (eqb (get_or many.facts f 0) 1)

pub less_supports : (p : Policy) (few many : State) → Less few many → Stricter (supported (world_of p few)) (supported (world_of p many))
unfolding rowless some_stands
less_supports p few many l xs r t = supported_moves (world_of p few) (world_of p many) xs xs r refl reads (λ q m h. h) t
  where
    reads : (c : Condition) → T (rowless (world_of p few) r.user c) → T (rowless (world_of p many) r.user c)
    reads (role q) h = tt
    reads (kind k) h = any-map (stands_for r.user k) (stands_for r.user k) few.certificates many.certificates (λ c m v. (l.certificates c m, v)) h
    reads (fact f) h = l.facts f h
    reads malformed h = h

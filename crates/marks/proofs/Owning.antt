-- One user's own marks: what holds by them holds for the user; and what one row or certificate more says.
use Prim.Native.Nat.{ℕ, ◌+◌, ◌-◌, ◌≤◌, ◌<◌}
use mathlib.Core.Path.{◌≡◌, refl, sym, ap, ◌∙◌, subst⁻¹}
use mathlib.Core.Bool.{Bool, true, false, ◌&&◌, ◌||◌, and-false, or-false}
use mathlib.Core.Logic.{◌≢◌, ◌⊎◌, inl, inr}
use mathlib.Core.List.{List, [], ◌∷◌, ◌++◌}
use native.Mathlib.Omega.{arith}
use lib.Dec.{eqb}
use lib.ListN.{length, set, replicate, length-set, length-replicate}
use lib.Seq.{get_or-set_same, get_or-set_other}
use borrow.Author.Tests.{eq-eqb, ne_eqb, lt-ltb, le-ltb}
use Rattle.model.specs.Lists.{all}
use Rattle.model.specs.Layout.{decode, row_count, certificate_count, row_from, row_numbers, certificate_from, certificate_numbers}
use Rattle.model.specs.Conditions.{Condition, role, kind, fact, malformed, meant, activating, membership, prerequisite_roles, kind_numbered, rule_numbered, is_row, active, some_stands, holds, all_hold, supported, satisfied}
use Rattle.model.specs.Values.{World}
use Rattle.model.specs.declared.Rule.{Rule}
use Rattle.model.specs.declared.Row.{Row}
use Rattle.model.specs.declared.Certificate.{Certificate}
use Rattle.model.proofs.Tests.{lt_or_ge, eq_or_ne, any_append, repeated}
use Rattle.model.proofs.Meaning.{meant-role, meant-kind, meant-fact, meant-nothing}
use Rattle.table.specs.Entries.{row_at, first_rows, certificate_at, first_certificates}
use Rattle.table.proofs.Entries.{entry-member, entries_more}
use Rattle.marks.specs.Marked.{own_marks, has, role_marked, holds_by, supported_by, satisfied_by}
use Rattle.marks.specs.Owned.{InRange, Own}

-- ── ranges, by places ──

pub row_in_range : (s : List ℕ) → InRange s → (i : ℕ) → i < row_count s → ((row_at s i).user < 4096) × ((row_at s i).role < 256)
unfolding decode row_at
row_in_range s r i h = r.rows (row_at s i) (entry-member row_from 3 (row_numbers s) (row_count s) i h)

pub certificate_in_range : (s : List ℕ) → InRange s → (i : ℕ) → i < certificate_count s → ((certificate_at s i).appointee < 4096) × ((certificate_at s i).kind < 128)
unfolding decode certificate_at
certificate_in_range s r i h = r.certificates (certificate_at s i) (entry-member certificate_from 3 (certificate_numbers s) (certificate_count s) i h)

-- ── what the marks say ──

-- no row and no certificate is marked
pub own-none : (u : ℕ) → Own u (replicate own_marks false) [] []
unfolding active some_stands
own-none u = record { size = length-replicate own_marks false; roles_marked = λ q l. repeated false own_marks q; kinds_marked = λ k l. repeated false own_marks (256 + k); beyond = λ q l. refl }

module _ (u : ℕ) (own : List Bool) (rows : List Row) (certificates : List Certificate) (x : Own u own rows certificates) where
  pub active-own : (q : ℕ) → q < 256 → role_marked (has own) q ≡ active rows u q
  active-own q h = ap (λ (b : Bool). b && has own q) (lt-ltb q 256 h) ∙ x.roles_marked q h

  role-own : (q : ℕ) → role_marked (has own) q ≡ active rows u q
  role-own q = go (lt_or_ge q 256)
    where
      go : (q < 256) ⊎ (256 ≤ q) → role_marked (has own) q ≡ active rows u q
      go (inl h) = active-own q h
      go (inr h) = ap (λ (b : Bool). b && has own q) (le-ltb q 256 h) ∙ sym (x.beyond q h)

-- what holds by them holds
module _ (u : ℕ) (own : List Bool) (rows : List Row) (w : World) (x : Own u own rows w.certificates) where
  kind-own : (k : ℕ) → k < 128 → holds_by (has own) w (kind k) ≡ holds w rows u (kind k)
  unfolding holds holds_by
  kind-own k h = λ i. x.kinds_marked k h i && all (λ (q : ℕ). role-own u own rows w.certificates x q i) (prerequisite_roles (kind_numbered w.policy k))

  plain_role : (q : ℕ) → holds_by (has own) w (role q) ≡ holds w rows u (role q)
  unfolding holds holds_by
  plain_role q = role-own u own rows w.certificates x q

  plain_fact : (f : ℕ) → holds_by (has own) w (fact f) ≡ holds w rows u (fact f)
  unfolding holds holds_by
  plain_fact f = refl

  plain_nothing : holds_by (has own) w malformed ≡ holds w rows u malformed
  unfolding holds holds_by
  plain_nothing = refl

  -- whatever number a condition has
  condition_own : (c : ℕ) → holds_by (has own) w (meant c) ≡ holds w rows u (meant c)
  condition_own c = go (lt_or_ge c 256) (lt_or_ge c 384) (lt_or_ge c 448)
    where
      of : {y : Condition} → meant c ≡ y → holds_by (has own) w y ≡ holds w rows u y → holds_by (has own) w (meant c) ≡ holds w rows u (meant c)
      of e h = ap (holds_by (has own) w) e ∙ h ∙ ap (holds w rows u) (sym e)

      go : (c < 256) ⊎ (256 ≤ c) → (c < 384) ⊎ (384 ≤ c) → (c < 448) ⊎ (448 ≤ c) → holds_by (has own) w (meant c) ≡ holds w rows u (meant c)
      go (inl h) b d = of (meant-role c h) (plain_role c)
      go (inr h) (inl m) d = of (meant-kind c h m) (kind-own (c - 256) (omega arith))
      go (inr h) (inr m) (inl n) = of (meant-fact c m n) (plain_fact (c - 384))
      go (inr h) (inr m) (inr n) = of (meant-nothing c n) plain_nothing

  pub supported-own : (r : Row) → r.user ≡ u → supported_by (has own) w r ≡ supported w rows r
  unfolding supported supported_by
  supported-own r e =
      (λ i. all (λ (c : ℕ). condition_own c i) (membership (rule_numbered w.policy r.rule)))
      ∙ ap (λ (v : ℕ). all_hold w rows v (membership (rule_numbered w.policy r.rule))) (sym e)

  pub satisfied-own : (q : ℕ) (r : Rule) → satisfied_by (has own) w q r ≡ satisfied w rows u q r
  unfolding satisfied satisfied_by
  satisfied-own q r = λ i. eqb r.target q && all (λ (c : ℕ). condition_own c i) (activating r)

-- ── one mark more ──

-- it says what it said, and the place that was marked
set_marks : (own : List Bool) (at c : ℕ) → at < length own → has (set own at true) c ≡ (has own c || (eqb at c || false))
set_marks own at c h = go (eq_or_ne c at)
  where
    whole : (b : Bool) → true ≡ (b || (true || false))
    whole true = refl
    whole false = refl

    go : (c ≡ at) ⊎ (c ≢ at) → has (set own at true) c ≡ (has own c || (eqb at c || false))
    go (inl e) =
        ap (λ (n : ℕ). has (set own at true) n) e
        ∙ get_or-set_same own at true false h
        ∙ whole (has own c)
        ∙ ap (λ (b : Bool). has own c || (b || false)) (sym (eq-eqb at c (sym e)))
    go (inr e) =
        get_or-set_other own at c true false e
        ∙ sym (ap (λ (b : Bool). has own c || (b || false)) (ne_eqb at c (λ d. e (sym d))) ∙ or-false (has own c))

-- another place is as it was
set_elsewhere : (own : List Bool) (at c : ℕ) → c ≢ at → has (set own at true) c ≡ has own c
set_elsewhere own at c h = get_or-set_other own at c true false h

same_kind : (a b : ℕ) → eqb (256 + a) (256 + b) ≡ eqb a b
same_kind a b = go (eq_or_ne a b)
  where
    go : (a ≡ b) ⊎ (a ≢ b) → eqb (256 + a) (256 + b) ≡ eqb a b
    go (inl e) = eq-eqb (256 + a) (256 + b) (ap (λ (n : ℕ). 256 + n) e) ∙ sym (eq-eqb a b e)
    go (inr e) = ne_eqb (256 + a) (256 + b) (λ q. e (omega (arith, q))) ∙ sym (ne_eqb a b e)

-- an entry of the user's says what its own mark says, and another's says nothing
mine : (u v : ℕ) (b : Bool) → v ≡ u → b ≡ (eqb v u && b)
mine u v b e = ap (λ (y : Bool). y && b) (sym (eq-eqb v u e))

others : (u v : ℕ) (a b : Bool) → v ≢ u → a ≡ (a || ((eqb v u && b) || false))
others u v a b e = sym (ap (λ (y : Bool). a || ((y && b) || false)) (ne_eqb v u e) ∙ or-false a)

module _ (u : ℕ) (own : List Bool) (rows : List Row) (certificates : List Certificate) (x : Own u own rows certificates) where
  -- one row more: the user's is marked, another's need not be, nor one whose role is marked
  module _ (r : Row) where
    row_more : (q : ℕ) → active (rows ++ (r ∷ [])) u q ≡ (active rows u q || (is_row u q r || false))
    unfolding active
    row_more q = any_append (is_row u q) rows (r ∷ [])

    out : r.role < 256 → (q : ℕ) → 256 ≤ q → active (rows ++ (r ∷ [])) u q ≡ false
    out l q k =
        row_more q
        ∙ (λ i. x.beyond q k i || ((ap (λ (b : Bool). eqb r.user u && b) (ne_eqb r.role q (λ e. omega (arith, e))) ∙ and-false (eqb r.user u)) i || false))

    pub row-own : r.user ≡ u → r.role < 256 → Own u (set own r.role true) (rows ++ (r ∷ [])) certificates
    row-own e l =
        record {
          size = length-set own r.role true ∙ x.size;
          roles_marked = λ q k.
              set_marks own r.role q (omega (arith, x.size))
              ∙ (λ i. x.roles_marked q k i || (mine u r.user (eqb r.role q) e i || false))
              ∙ sym (row_more q);
          kinds_marked = λ k j. set_elsewhere own r.role (256 + k) (λ d. omega (arith, d)) ∙ x.kinds_marked k j;
          beyond = out l;
        }

    -- the rows say no more than before
    unmarked : ((q : ℕ) → active rows u q ≡ active (rows ++ (r ∷ [])) u q) → Own u own (rows ++ (r ∷ [])) certificates
    unmarked same =
        record {
          size = x.size;
          roles_marked = λ q k. x.roles_marked q k ∙ same q;
          kinds_marked = x.kinds_marked;
          beyond = λ q k. sym (same q) ∙ x.beyond q k;
        }

    pub row_other : r.user ≢ u → Own u own (rows ++ (r ∷ [])) certificates
    row_other e = unmarked (λ q. others u r.user (active rows u q) (eqb r.role q) e ∙ sym (row_more q))

    pub row_again : active rows u r.role ≡ true → Own u own (rows ++ (r ∷ [])) certificates
    row_again h = unmarked (λ q. go q (eq_or_ne r.role q) ∙ sym (row_more q))
      where
        go : (q : ℕ) → (r.role ≡ q) ⊎ (r.role ≢ q) → active rows u q ≡ (active rows u q || (is_row u q r || false))
        go q (inl e) =
            let a : active rows u q ≡ true = ap (active rows u) (sym e) ∙ h in
            a ∙ sym (ap (λ (b : Bool). b || (is_row u q r || false)) a)
        go q (inr e) = sym (ap (λ (b : Bool). active rows u q || (b || false)) (ap (λ (b : Bool). eqb r.user u && b) (ne_eqb r.role q e) ∙ and-false (eqb r.user u)) ∙ or-false (active rows u q))

  -- one certificate more
  module _ (c : Certificate) where
    certificate_more : (k : ℕ)
        → some_stands (certificates ++ (c ∷ [])) u k ≡ (some_stands certificates u k || ((eqb c.appointee u && eqb c.kind k) || false))
    unfolding some_stands
    certificate_more k = any_append (λ (d : Certificate). eqb d.appointee u && eqb d.kind k) certificates (c ∷ [])

    certificate-own : c.appointee ≡ u → c.kind < 128 → Own u (set own (256 + c.kind) true) rows (certificates ++ (c ∷ []))
    certificate-own e l =
        record {
          size = length-set own (256 + c.kind) true ∙ x.size;
          roles_marked = λ q k. set_elsewhere own (256 + c.kind) q (λ d. omega (arith, d)) ∙ x.roles_marked q k;
          kinds_marked = λ k j.
              set_marks own (256 + c.kind) (256 + k) (omega (arith, x.size))
              ∙ (λ i. x.kinds_marked k j i || ((same_kind c.kind k ∙ mine u c.appointee (eqb c.kind k) e) i || false))
              ∙ sym (certificate_more k);
          beyond = x.beyond;
        }

    certificate_other : c.appointee ≢ u → Own u own rows (certificates ++ (c ∷ []))
    certificate_other e =
        record {
          size = x.size;
          roles_marked = x.roles_marked;
          kinds_marked = λ k j. x.kinds_marked k j ∙ others u c.appointee (some_stands certificates u k) (eqb c.kind k) e ∙ sym (certificate_more k);
          beyond = x.beyond;
        }

-- ── the loops over a state's tables ──

module _ (s : List ℕ) (own : List Bool) (u i : ℕ) where
  module _ (certificates : List Certificate) (r : Row) (e : r ≡ row_at s i) (x : Own u own (first_rows s i) certificates) where
    rows_next : (own' : List Bool) → Own u own' (first_rows s i ++ (r ∷ [])) certificates → Own u own' (first_rows s (i + 1)) certificates
    unfolding first_rows row_at
    rows_next own' =
        subst⁻¹ (λ (l : List Row). Own u own' l certificates)
        (entries_more row_from 3 (row_numbers s) i ∙ ap (λ (d : Row). first_rows s i ++ (d ∷ [])) (sym e))

    pub roles_on : (q : ℕ) → InRange s → i < row_count s → r.user ≡ u → q ≡ r.role → Own u (set own q true) (first_rows s (i + 1)) certificates
    roles_on q range h same p =
        rows_next (set own q true)
        (subst⁻¹ (λ (n : ℕ). Own u (set own n true) (first_rows s i ++ (r ∷ [])) certificates) p
        (row-own u own (first_rows s i) certificates x r same (subst⁻¹ (λ (d : Row). d.role < 256) e (row_in_range s range i h).1)))

    pub roles_past : r.user ≢ u → Own u own (first_rows s (i + 1)) certificates
    roles_past other = rows_next own (row_other u own (first_rows s i) certificates x r other)

  module _ (rows : List Row) (c : Certificate) (e : c ≡ certificate_at s i) (x : Own u own rows (first_certificates s i)) where
    certificates-next : (own' : List Bool) → Own u own' rows (first_certificates s i ++ (c ∷ [])) → Own u own' rows (first_certificates s (i + 1))
    unfolding first_certificates certificate_at
    certificates-next own' =
        subst⁻¹ (λ (l : List Certificate). Own u own' rows l)
        (entries_more certificate_from 3 (certificate_numbers s) i ∙ ap (λ (d : Certificate). first_certificates s i ++ (d ∷ [])) (sym e))

    pub kinds_on : (k : ℕ) → InRange s → i < certificate_count s → c.appointee ≡ u → k ≡ c.kind → Own u (set own (256 + k) true) rows (first_certificates s (i + 1))
    kinds_on k range h same p =
        certificates-next (set own (256 + k) true)
        (subst⁻¹ (λ (n : ℕ). Own u (set own (256 + n) true) rows (first_certificates s i ++ (c ∷ []))) p
        (certificate-own u own rows (first_certificates s i) x c same (subst⁻¹ (λ (d : Certificate). d.kind < 128) e (certificate_in_range s range i h).1)))

    pub kinds_past : c.appointee ≢ u → Own u own rows (first_certificates s (i + 1))
    kinds_past other = certificates-next own (certificate_other u own rows (first_certificates s i) x c other)

-- Marks: what code marks condition by condition is what the conditions ask for.
use Prim.Native.Nat.{ℕ, zero, suc, ◌+◌, ◌≤◌, ◌<◌}
use mathlib.Core.Path.{◌≡◌, refl, sym, ap, ◌∙◌, subst, subst⁻¹}
use mathlib.Core.Bool.{Bool, true, false, true≢false}
use mathlib.Core.Logic.{◌⊎◌, inl, inr}
use mathlib.Core.List.Memᴰ
use mathlib.Core.List.{List, [], ◌∷◌, Memᴰ}
use native.Mathlib.Omega.{arith}
use lib.Dec.{eqb}
use borrow.Author.Tests.{eqb-true, eqb-false}
use lib.ListN.{length, get_or, set}
use lib.Seq.{get_or-set_same, get_or-set_other}
use Rattle.model.specs.Layout.{policy_of}
use Rattle.model.specs.Conditions.{meant, roles_asked}
use Rattle.model.proofs.Tests.{lt_or_ge, at_place, place_of}
use Rattle.table.specs.Entries.{without_rights}
use Rattle.rests.specs.Asked.{HasAsked, AskedThrough, Grown, ConditionAsked, Known}
use Rattle.rests.proofs.Asking.{asked-role}
use Rattle.model.proofs.Meaning.{meant-role}

-- ── one mark more ──

module _ (a : List Bool) (w : ℕ) (l : w < length a) where
  pub mark_here : (q : ℕ) → w ≡ q → get_or (set a w true) q false ≡ true
  mark_here q e = ap (λ (n : ℕ). get_or (set a w true) n false) (sym e) ∙ get_or-set_same a w true false l

  mark_keeps : (q : ℕ) → get_or a q false ≡ true → get_or (set a w true) q false ≡ true
  mark_keeps q h = go (eqb w q) refl
    where
      go : (b : Bool) → eqb w q ≡ b → get_or (set a w true) q false ≡ true
      go true z = mark_here q (eqb-true w q z)
      go false z = get_or-set_other a w q true false (λ x. eqb-false w q z (sym x)) ∙ h

  pub mark_only : (q : ℕ) → get_or (set a w true) q false ≡ true → (w ≡ q) ⊎ (get_or a q false ≡ true)
  mark_only q h = go (eqb w q) refl
    where
      go : (b : Bool) → eqb w q ≡ b → (w ≡ q) ⊎ (get_or a q false ≡ true)
      go true z = inl (eqb-true w q z)
      go false z = inr (sym (get_or-set_other a w q true false (λ x. eqb-false w q z (sym x))) ∙ h)

module _ (kinds : List ℕ) where
  -- what was answered stays so
  answered-keeps : (a b : List Bool) (c : ℕ) → ((q : ℕ) → get_or a q false ≡ true → get_or b q false ≡ true) → HasAsked kinds a c → HasAsked kinds b c
  answered-keeps a b c k h q l m = k q (h q l m)

  pub grown-none : (a : List Bool) (cs : List ℕ) (n : ℕ) → AskedThrough kinds a → Grown kinds a a cs n
  grown-none a cs n h = record { closed = h; keeps = λ c e. e; only = λ q l e. inl e }

  -- a role is marked
  role-asked : (a : List Bool) (c w : ℕ) → length a ≡ 384 → w ≡ c → c < 256 → AskedThrough kinds a → ConditionAsked kinds a (set a w true) c
  role-asked a c w size e l h =
      record {
        grown = record { closed = closed; keeps = mark_keeps a w inside; only = λ q k m. only q (mark_only a w inside q m) };
        answered = λ q k m. mark_here a w inside q (e ∙ sym (Memᴰ.eq_of_singleton (subst⁻¹ (Memᴰ q) (asked-role kinds c c (sym (meant-role c l))) m)));
      }
    where
      inside : w < length a
      inside = omega (arith, size, e)

      old : (d : ℕ) → 256 ≤ d → (w ≡ d) ⊎ (get_or a d false ≡ true) → get_or a d false ≡ true
      old d k (inl z) = absurd (omega arith)
      old d k (inr z) = z

      closed : AskedThrough kinds (set a w true)
      closed d k m = answered-keeps a (set a w true) d (mark_keeps a w inside) (h d k (old d k (mark_only a w inside d m)))

      only : (q : ℕ) → (w ≡ q) ⊎ (get_or a q false ≡ true) → (get_or a q false ≡ true) ⊎ ((j : ℕ) × (j < 1) × Memᴰ q (roles_asked (policy_of (without_rights [] kinds)) (meant (get_or (c ∷ []) j 0))))
      only q (inl z) = inr (0, omega arith, subst (Memᴰ q) (asked-role kinds c c (sym (meant-role c l))) (Memᴰ.head (sym z ∙ e)))
      only q (inr z) = inl z

  -- a condition that asks for nothing more
  nothing_added : (a : List Bool) (c : ℕ) → AskedThrough kinds a → HasAsked kinds a c → ConditionAsked kinds a a c
  nothing_added a c h k = record { grown = grown-none a (c ∷ []) 1 h; answered = k }

  none-answered : (a : List Bool) (c : ℕ) → [] ≡ roles_asked (policy_of (without_rights [] kinds)) (meant c) → HasAsked kinds a c
  none-answered a c e q k m = absurd (Memᴰ.not-nil (subst⁻¹ (Memᴰ q) e m))

  -- ── condition by condition ──

  pub grown-next : (a b d : List Bool) (cs : List ℕ) (i c : ℕ) → c ≡ get_or cs i 0 → Grown kinds a b cs i → ConditionAsked kinds b d c → Grown kinds a d cs (i + 1)
  grown-next a b d cs i c e g k = record { closed = k.grown.closed; keeps = λ x h. k.grown.keeps x (g.keeps x h); only = λ q l h. before q l (k.grown.only q l h) }
    where
      Named : ℕ → ℕ → Type 0
      Named q n = (get_or a q false ≡ true) ⊎ ((j : ℕ) × (j < n) × Memᴰ q (roles_asked (policy_of (without_rights [] kinds)) (meant (get_or cs j 0))))

      sooner : (q : ℕ) → Named q i → Named q (i + 1)
      sooner q (inl h) = inl h
      sooner q (inr h) = inr (h.0, omega (arith, h.1), h.2)

      before : (q : ℕ) → q < 256 → (get_or b q false ≡ true) ⊎ ((j : ℕ) × (j < 1) × Memᴰ q (roles_asked (policy_of (without_rights [] kinds)) (meant (get_or (c ∷ []) j 0)))) → Named q (i + 1)
      before q l (inl h) = sooner q (g.only q l h)
      before q l (inr (zero, m, h)) = inr (i, omega arith, subst (λ (x : ℕ). Memᴰ q (roles_asked (policy_of (without_rights [] kinds)) (meant x))) e h)
      before q l (inr (suc j, m, h)) = absurd (omega arith)

  pub each_next : (b d : List Bool) (cs : List ℕ) (i c : ℕ) → c ≡ get_or cs i 0 → ((j : ℕ) → j < i → HasAsked kinds b (get_or cs j 0)) → ConditionAsked kinds b d c → (j : ℕ) → j < i + 1 → HasAsked kinds d (get_or cs j 0)
  each_next b d cs i c e h k j l = go (lt_or_ge j i)
    where
      go : (j < i) ⊎ (i ≤ j) → HasAsked kinds d (get_or cs j 0)
      go (inl m) = answered-keeps b d (get_or cs j 0) k.grown.keeps (h j m)
      go (inr m) = let at : i ≡ j = omega arith in subst (λ (x : ℕ). HasAsked kinds d x) (e ∙ ap (λ (n : ℕ). get_or cs n 0) at) k.answered

-- ── the code's answers ──

module _ (a : List Bool) (c : ℕ) where
  pub known-role : (w : ℕ) → length a ≡ 384 → w ≡ c → c < 256 → Known a (set a w true) c true
  known-role w size e l = record { known = λ z kinds h. role-asked kinds a c w size e l h; unknown = λ z. absurd (true≢false z) }

  pub known-kind : (w : ℕ) (r : Bool) → w ≡ c → r ≡ get_or a w false → 256 ≤ c → c < 384 → Known a a c r
  known-kind w r e f k l =
      let at : r ≡ get_or a c false = f ∙ ap (λ (n : ℕ). get_or a n false) e in
      record { known = λ z kinds h. nothing_added kinds a c h (h c k (sym at ∙ z)); unknown = λ z. (refl, k, l) }

  pub known-none : ((kinds : List ℕ) → [] ≡ roles_asked (policy_of (without_rights [] kinds)) (meant c)) → Known a a c true
  known-none e = record { known = λ z kinds h. nothing_added kinds a c h (none-answered kinds a c (e kinds)); unknown = λ z. absurd (true≢false z) }

-- ── a kind, role by role ──

-- the first j of the roles are marked beside what was
pub record RolesMarked (a b : List Bool) (roles : List ℕ) (j : ℕ) : Type 0 where
  pub kinds_same : (c : ℕ) → 256 ≤ c → get_or b c false ≡ get_or a c false
  pub keeps : (q : ℕ) → get_or a q false ≡ true → get_or b q false ≡ true
  pub only : (q : ℕ) → get_or b q false ≡ true → (get_or a q false ≡ true) ⊎ ((i : ℕ) × (i < j) × (q ≡ get_or roles i 0))
  pub each : (i : ℕ) → i < j → get_or roles i 0 < 256 → get_or b (get_or roles i 0) false ≡ true

pub roles-none : (a : List Bool) (roles : List ℕ) → RolesMarked a a roles 0
roles-none a roles = record { kinds_same = λ c l. refl; keeps = λ q h. h; only = λ q h. inl h; each = λ i l. absurd (omega arith) }

module _ (a b : List Bool) (roles : List ℕ) (j q : ℕ) (e : q ≡ get_or roles j 0) (h : RolesMarked a b roles j) where
  sooner : (p : ℕ) → (get_or a p false ≡ true) ⊎ ((i : ℕ) × (i < j) × (p ≡ get_or roles i 0)) → (get_or a p false ≡ true) ⊎ ((i : ℕ) × (i < j + 1) × (p ≡ get_or roles i 0))
  sooner p (inl k) = inl k
  sooner p (inr k) = inr (k.0, omega (arith, k.1), k.2)

  pub roles_more : (w : ℕ) → length b ≡ 384 → w ≡ q → q < 256 → RolesMarked a (set b w true) roles (j + 1)
  roles_more w size z l =
      record {
        kinds_same = λ c k. get_or-set_other b w c true false (λ x. absurd (omega arith)) ∙ h.kinds_same c k;
        keeps = λ p k. mark_keeps b w inside p (h.keeps p k);
        only = λ p k. only p (mark_only b w inside p k);
        each = λ i k m. each i k m (lt_or_ge i j);
      }
    where
      inside : w < length b
      inside = omega (arith, size)

      only : (p : ℕ) → (w ≡ p) ⊎ (get_or b p false ≡ true) → (get_or a p false ≡ true) ⊎ ((i : ℕ) × (i < j + 1) × (p ≡ get_or roles i 0))
      only p (inl k) = inr (j, omega arith, sym k ∙ z ∙ e)
      only p (inr k) = sooner p (h.only p k)

      each : (i : ℕ) → i < j + 1 → get_or roles i 0 < 256 → (i < j) ⊎ (j ≤ i) → get_or (set b w true) (get_or roles i 0) false ≡ true
      each i o m (inl k) = mark_keeps b w inside (get_or roles i 0) (h.each i k m)
      each i o m (inr k) = let at : j ≡ i = omega arith in mark_here b w inside (get_or roles i 0) (z ∙ e ∙ ap (λ (n : ℕ). get_or roles n 0) at)

  pub roles-beyond : 256 ≤ q → RolesMarked a b roles (j + 1)
  roles-beyond l = record { kinds_same = h.kinds_same; keeps = h.keeps; only = λ p k. sooner p (h.only p k); each = λ i k m. each i k m (lt_or_ge i j) }
    where
      each : (i : ℕ) → i < j + 1 → get_or roles i 0 < 256 → (i < j) ⊎ (j ≤ i) → get_or b (get_or roles i 0) false ≡ true
      each i o m (inl k) = h.each i k m
      each i o m (inr k) = let at : i ≡ j = omega arith in absurd (omega (arith, e, ap (λ (n : ℕ). get_or roles n 0) at))

-- all of its roles, and then its own mark
pub kind_marked : (kinds : List ℕ) (a b : List Bool) (roles : List ℕ) (j c w : ℕ) → length b ≡ 384 → roles ≡ roles_asked (policy_of (without_rights [] kinds)) (meant c) → j ≡ length roles → w ≡ c → 256 ≤ c → c < 384 → AskedThrough kinds a → RolesMarked a b roles j → ConditionAsked kinds a (set b w true) c
kind_marked kinds a b roles j c w size e all z k l h g =
    record {
      grown = record { closed = closed; keeps = λ d m. mark_keeps b w inside d (g.keeps d m); only = λ q m o. only q m (mark_only b w inside q o) };
      answered = λ q m o. mark_keeps b w inside q (answered q m o);
    }
  where
    inside : w < length b
    inside = omega (arith, size)

    answered : HasAsked kinds b c
    answered q m o = here (place_of roles 0 q (subst⁻¹ (Memᴰ q) e o))
      where
        here : (i : ℕ) × (i < length roles) × (q ≡ get_or roles i 0) → get_or b q false ≡ true
        here p = subst⁻¹ (λ (x : ℕ). get_or b x false ≡ true) p.2 (g.each p.0 (omega (arith, p.1)) (subst (λ (x : ℕ). x < 256) p.2 m))

    closed : AskedThrough kinds (set b w true)
    closed d m o = go (mark_only b w inside d o)
      where
        go : (w ≡ d) ⊎ (get_or b d false ≡ true) → HasAsked kinds (set b w true) d
        go (inl x) = answered-keeps kinds b (set b w true) d (mark_keeps b w inside) (subst (λ (y : ℕ). HasAsked kinds b y) (sym z ∙ x) answered)
        go (inr x) = answered-keeps kinds a (set b w true) d (λ q y. mark_keeps b w inside q (g.keeps q y)) (h d m (sym (g.kinds_same d m) ∙ x))

    only : (q : ℕ) → q < 256 → (w ≡ q) ⊎ (get_or b q false ≡ true) → (get_or a q false ≡ true) ⊎ ((i : ℕ) × (i < 1) × Memᴰ q (roles_asked (policy_of (without_rights [] kinds)) (meant (get_or (c ∷ []) i 0))))
    only q m (inl x) = absurd (omega arith)
    only q m (inr x) = named (g.only q x)
      where
        named : (get_or a q false ≡ true) ⊎ ((i : ℕ) × (i < j) × (q ≡ get_or roles i 0)) → (get_or a q false ≡ true) ⊎ ((i : ℕ) × (i < 1) × Memᴰ q (roles_asked (policy_of (without_rights [] kinds)) (meant (get_or (c ∷ []) i 0))))
        named (inl y) = inl y
        named (inr y) =
            let within : y.0 < length roles = omega (arith, y.1) in
            inr (0, omega arith, subst (Memᴰ q) e (subst⁻¹ (λ (x : ℕ). Memᴰ x roles) y.2 (at_place roles y.0 0 within)))

-- a condition that was not known is a kind, which asks
pub asked_then : (kinds : List ℕ) (a b d : List Bool) (c e : ℕ) → b ≡ a → e ≡ c → ConditionAsked kinds b d e → ConditionAsked kinds a d c
asked_then kinds a b d c e p q h = subst (λ (n : ℕ). ConditionAsked kinds a d n) q (subst (λ (x : List Bool). ConditionAsked kinds x d e) p h)

-- ── a row's conditions, up to the first that is not known or to the end ──

-- the first i of the conditions have asked
abbrev pub AskedSoFar : List Bool → List Bool → List ℕ → ℕ → Type 0
AskedSoFar a b ms i = (kinds : List ℕ) → AskedThrough kinds a → Grown kinds a b ms i × ((j : ℕ) → j < i → HasAsked kinds b (get_or ms j 0))

module _ (a b : List Bool) (ms : List ℕ) (i : ℕ) (h : AskedSoFar a b ms i) where
  pub asked-next : (d : List Bool) (c : ℕ) → c ≡ get_or ms i 0 → Known b d c true → AskedSoFar a d ms (i + 1)
  asked-next d c e k kinds t =
      let one : ConditionAsked kinds b d c = k.known refl kinds (h kinds t).0.closed in
      (grown-next kinds a b d ms i c e (h kinds t).0 one, each_next kinds b d ms i c e (h kinds t).1 one)

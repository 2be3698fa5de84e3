-- Which roles have the privilege themselves: what code writes right by right is what the model asks of a role.
use Prim.Native.Nat.{ℕ, zero, suc, ◌+◌, ◌*◌, ◌-◌, ◌/◌, ◌≤◌, ◌<◌}
use mathlib.Core.Path.{◌≡◌, refl, sym, ap, ◌∙◌, subst, subst⁻¹}
use mathlib.Core.Bool.{Bool, true, false, ◌&&◌, ◌||◌, and-false, or-true, or-false}
use mathlib.Core.Logic.{◌⊎◌, inl, inr}
use mathlib.Core.List.{List, [], ◌∷◌}
use native.Mathlib.Omega.{arith}
use lib.Dec.{eqb, ltb, ltb→lt}
use borrow.Author.Tests.{eq-eqb, ne_eqb, eqb-true, eqb-false, lt-ltb, le-ltb}
use lib.ListN.{length, get_or, set, replicate, take, drop, get_or-eq_default, length-take, length-drop}
use lib.Seq.{get_or-set_same, get_or-set_other, get_or-take, get_or-drop}
use Rattle.model.specs.Lists.{any}
use Rattle.model.specs.Layout.{policy_of, right_from}
use Rattle.model.specs.Effective.{is_right, direct}
use Rattle.model.specs.Calls.{allowed}
use Rattle.model.specs.Sound.{policy_clauses, right_clauses, right_fits}
use Rattle.model.specs.Words.{Sound}
use Rattle.model.specs.declared.Right.{Right}
use Rattle.model.specs.declared.Row.{Row}
use Rattle.model.proofs.Tests.{lt_or_ge, each, all_of, any_append, repeated}
use Rattle.table.specs.Entries.{entry, entries, right_at, lent}
use Rattle.table.proofs.Entries.{entries_more, entry-member, right_places}
use Rattle.direct.proofs.Joined.{any_false}
use Rattle.direct.specs.Having.{RightsFit, met, Said, holds_right, Having}

module _ (rights : List ℕ) (x : ℕ) where
  pub said-none : (n : ℕ) → Said rights x 0 (replicate n false)
  said-none n q = repeated false n q

  -- one right more
  said-next : (i q : ℕ) (right : Right) → right ≡ right_at rights i → any (is_right x q) (entries right_from 2 rights (i + 1)) ≡ (any (is_right x q) (entries right_from 2 rights i) || (is_right x q right || false))
  unfolding right_at
  said-next i q right e =
      ap (any (is_right x q)) (entries_more right_from 2 rights i)
      ∙ any_append (is_right x q) (entries right_from 2 rights i) (entry right_from 2 rights i ∷ [])
      ∙ ap (λ (r : Right). any (is_right x q) (entries right_from 2 rights i) || (is_right x q r || false)) (sym e)

  -- to another privilege
  pub said_other : (i : ℕ) (right : Right) (having : List Bool) → right ≡ right_at rights i → (right.privilege ≡ x → ⊥) → Said rights x i having → Said rights x (i + 1) having
  said_other i right having e n h q =
      h q
      ∙ sym (said-next i q right e
      ∙ ap (λ (b : Bool). any (is_right x q) (entries right_from 2 rights i) || ((eqb right.role q && b) || false)) (ne_eqb right.privilege x n)
      ∙ ap (λ (b : Bool). any (is_right x q) (entries right_from 2 rights i) || (b || false)) (and-false (eqb right.role q))
      ∙ or-false (any (is_right x q) (entries right_from 2 rights i)))

  -- to this one: its role has it
  pub said_more : (i w : ℕ) (right : Right) (having : List Bool) → right ≡ right_at rights i → right.privilege ≡ x → w ≡ right.role → w < length having → Said rights x i having → Said rights x (i + 1) (set having w true)
  said_more i w right having e p r l h q = go (eqb right.role q) refl
    where
      now_or_before : (b : Bool) → eqb right.role q ≡ b → any (is_right x q) (entries right_from 2 rights (i + 1)) ≡ (any (is_right x q) (entries right_from 2 rights i) || ((b && true) || false))
      now_or_before b z = said-next i q right e ∙ (λ j. any (is_right x q) (entries right_from 2 rights i) || ((z j && eq-eqb right.privilege x p j) || false))

      go : (b : Bool) → eqb right.role q ≡ b → get_or (set having w true) q false ≡ any (is_right x q) (entries right_from 2 rights (i + 1))
      go true z =
          ap (λ (k : ℕ). get_or (set having w true) k false) (sym (r ∙ eqb-true right.role q z))
          ∙ get_or-set_same having w true false l
          ∙ sym (now_or_before true z ∙ or-true (any (is_right x q) (entries right_from 2 rights i)))
      go false z =
          get_or-set_other having w q true false (λ k. eqb-false right.role q z (sym (k ∙ r)))
          ∙ h q
          ∙ sym (now_or_before false z ∙ or-false (any (is_right x q) (entries right_from 2 rights i)))

  -- ── several rights at a time ──

  -- rights of which none is to this privilege
  said_so_far : (i m : ℕ) (having : List Bool) → ((k : ℕ) → k < m → (right_at rights (i + k)).privilege ≡ x → ⊥) → Said rights x i having → Said rights x (i + m) having
  said_so_far i zero having other h = let at : i + 0 ≡ i = omega arith in subst⁻¹ (λ (k : ℕ). Said rights x k having) at h
  said_so_far i (suc m) having other h =
      let at : i + suc m ≡ i + m + 1 = omega arith in
      subst⁻¹ (λ (k : ℕ). Said rights x k having) at
      (said_other (i + m) (right_at rights (i + m)) having refl (other m (omega arith)) (said_so_far i m having (λ k l. other k (omega arith)) h))

  -- where the privilege is not met among the numbers of sixteen rights, none of them is to it
  pub said_sixteen : (i : ℕ) (having : List Bool) → i + 16 ≤ length rights / 2 → met (take ((i + 16) * 2 - i * 2) (drop (i * 2) rights)) x ≡ false → Said rights x i having → Said rights x (i + 16) having
  said_sixteen i having inside n h = said_so_far i 16 having other h
    where
      other : (k : ℕ) → k < 16 → (right_at rights (i + k)).privilege ≡ x → ⊥
      other k l e =
          let at : i * 2 + (k * 2 + 1) ≡ (i + k) * 2 + 1 = omega arith in
          let numbers = take ((i + 16) * 2 - i * 2) (drop (i * 2) rights) in
          any_false (λ (n : ℕ). eqb n x) numbers (k * 2 + 1) 0 (simp (length-take, length-drop) (omega arith)) n
          (eq-eqb (get_or numbers (k * 2 + 1) 0) x
          (get_or-take ((i + 16) * 2 - i * 2) (drop (i * 2) rights) (k * 2 + 1) 0 (omega arith)
          ∙ get_or-drop (i * 2) rights (k * 2 + 1) 0
          ∙ ap (λ (k : ℕ). get_or rights k 0) at
          ∙ ap (λ (r : Right). r.privilege) (sym (right_places rights (i + k)))
          ∙ e))

  pub said_all : (i : ℕ) (having : List Bool) → i ≡ length rights / 2 → length having ≡ 256 → Said rights x i having → Having rights x having
  unfolding Having holds_right direct policy_of
  said_all i having e size h q = go (lt_or_ge q 256) ∙ h q ∙ ap (λ (n : ℕ). any (is_right x q) (entries right_from 2 rights n)) e
    where
      go : (q < 256) ⊎ (256 ≤ q) → (ltb q 256 && get_or having q false) ≡ get_or having q false
      go (inl l) = ap (λ (b : Bool). b && get_or having q false) (lt-ltb q 256 l)
      go (inr l) = ap (λ (b : Bool). b && get_or having q false) (le-ltb q 256 l) ∙ sym (get_or-eq_default having false {n = q} (omega arith))

  -- the row is the user's, and its role has the privilege: as code asks it
  row-having : (having : List Bool) (u : ℕ) (row : Row) → Having rights x having → (eqb row.user u && direct (policy_of (lent [] [] rights)) row.role x) ≡ (eqb row.user u && holds_right having row.role)
  unfolding Having
  row-having having u row h = ap (λ (b : Bool). eqb row.user u && b) (sym (h row.role))

  pub rows_having : (having : List Bool) (u : ℕ) (rows : List Row) → Having rights x having → any (λ (r : Row). eqb r.user u && holds_right having r.role) rows ≡ allowed (policy_of (lent [] [] rights)) rows u x
  unfolding allowed
  rows_having having u rows h = λ j. any (λ (r : Row). sym (row-having having u r h) j) rows

-- ── sound rights ──

-- each names a role that there is
pub right_role : (rights : List ℕ) → RightsFit rights → (i : ℕ) → i < length rights / 2 → (right : Right) → right ≡ right_at rights i → right.role < 256
unfolding policy_of right_at right_clauses
right_role rights f i l right e =
    subst (λ (r : Right). r.role < 256) (sym e)
    (ltb→lt (right_at rights i).role 256 (each (right_clauses (right_at rights i)) (all_of right_fits (entries right_from 2 rights (length rights / 2)) f (right_at rights i) (entry-member right_from 2 rights (length rights / 2) i l))).0)

pub sound-rights : (rules kinds rights s : List ℕ) → Sound (lent rules kinds rights) s → RightsFit rights
unfolding policy_clauses policy_of
sound-rights rules kinds rights s h = (each (policy_clauses (lent rules kinds rights)) h.policy).1.1.1.1.1.1.1.1.0

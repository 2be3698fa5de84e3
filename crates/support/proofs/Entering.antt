-- A user's own marks: the kinds, along the queue of the user's certificates; and one row more, judged by them.
use Prim.Native.Nat.{ℕ, zero, suc, ◌+◌, ◌-◌, ◌≤◌, ◌<◌}
use mathlib.Core.Path.{◌≡◌, refl, sym, ap, ◌∙◌, subst, subst⁻¹}
use mathlib.Core.Bool.{Bool, true, false, cond}
use mathlib.Core.Logic.{◌≢◌}
use mathlib.Core.List.{List, [], ◌∷◌, ◌++◌}
use native.Mathlib.Omega.{arith}
use native.Mathlib.Numerals.{add-one}
use lib.ListN.{get_or, set, replicate}
use Rattle.model.specs.Values.{World}
use Rattle.model.specs.Layout.{decode, row_count, certificate_count, certificates_at}
use Rattle.model.specs.Conditions.{active, supported}
use Rattle.model.specs.Left.{keep, left}
use Rattle.model.specs.declared.Row.{Row}
use Rattle.model.specs.declared.Certificate.{Certificate}
use Rattle.model.proofs.Sweep.{left_last}
use Rattle.table.specs.Entries.{row_at, first_rows, certificate_at, first_certificates}
use Rattle.table.proofs.Entries.{rows_more, certificate_places}
use Rattle.marks.specs.Marked.{own_marks, has, supported_by}
use Rattle.marks.specs.Owned.{InRange, Own}
use Rattle.marks.proofs.Owning.{row_in_range, own-none, supported-own, row-own, row_again, kinds_on, kinds_past}
use Rattle.queues.specs.Queued.{queue, Link, Queued, first_entry, entry_behind}
use Rattle.queues.specs.declared.Queues.{Queues}
use Rattle.queues.proofs.Linking.{reach, passed_user, link_first, link_behind}
use Rattle.std.specs.Prelude.{Option, Some, None}
use Rattle.support.specs.Verdicts.{kept, verdict_at}
use Rattle.support.specs.declared.Verdict.TheVariants.{Stays, Falls, Twice}

-- ── kinds ──

-- the first certificates are marked, and `next` is the next that may be the user's, if there is one
pub record Entering (s : List ℕ) (u : ℕ) (own : List Bool) (next : Option ℕ) : Type 0 where
  pub upto : ℕ
  pub inside : upto ≤ certificate_count s
  pub marked : Own u own [] (first_certificates s upto)
  pub link : Link s certificates_at (certificate_count s) (queue u) upto next

-- certificates of others need no mark
kinds_skip : (s : List ℕ) (own : List Bool) (u a d : ℕ) → ((h : ℕ) → a ≤ h → h < a + d → (certificate_at s h).appointee ≢ u)
    → Own u own [] (first_certificates s a) → Own u own [] (first_certificates s (a + d))
kinds_skip s own u a zero others x = let e : a ≡ a + 0 = omega arith in subst (λ (n : ℕ). Own u own [] (first_certificates s n)) e x
kinds_skip s own u a (suc d) others x =
    let e : a + d + 1 ≡ a + suc d = omega arith in
    subst (λ (n : ℕ). Own u own [] (first_certificates s n)) e
    (kinds_past s own u (a + d) [] (certificate_at s (a + d)) refl (kinds_skip s own u a d (λ h after before. others h after (omega arith)) x) (others (a + d) (omega arith) (omega arith)))

module _ {s : List ℕ} {u : ℕ} {q : Queues} (range : InRange s) (queued : Queued s certificates_at (certificate_count s) q) where
  pub entering_none : {own : List Bool} {next : Option ℕ} → own ≡ replicate own_marks false → next ≡ first_entry q u → Entering s u own next
  unfolding first_certificates
  entering_none e d =
      record {
        upto = 0;
        inside = omega arith;
        marked = subst⁻¹ (λ (l : List Bool). Own u l [] []) e (own-none u);
        link = link_first queued u d;
      }

  module _ {own : List Bool} where
    -- those that the queue passes over are others'
    skipped : {next : Option ℕ} (x : Entering s u own next) (m : ℕ) → x.upto ≤ m → m ≤ reach (certificate_count s) next → m ≤ certificate_count s → Own u own [] (first_certificates s m)
    skipped {next} x m after before inside =
        let e : x.upto + (m - x.upto) ≡ m = omega arith in
        subst (λ (n : ℕ). Own u own [] (first_certificates s n)) e
        (kinds_skip s own u x.upto (m - x.upto)
        (λ h a b q. passed_user s certificates_at (certificate_count s) (queue u) x.upto next x.link u refl h a (omega arith) (omega arith) (sym (ap (λ (c : Certificate). c.appointee) (certificate_places s h (omega (arith, range.sized.certificates)))) ∙ q))
        x.marked)

    pub entering_all : {next : Option ℕ} → next ≡ None → Entering s u own next → Own u own [] (decode s).certificates
    unfolding decode first_certificates
    entering_all {next} e x = skipped x (certificate_count s) x.inside (subst⁻¹ (λ (o : Option ℕ). certificate_count s ≤ reach (certificate_count s) o) e (omega arith)) (omega arith)

    -- certificate k, and where the queue goes on from it
    module _ {k : ℕ} {now : Option ℕ} (here : now ≡ Some k) (y : Entering s u own now) where
      x : Entering s u own (Some k)
      x = subst (Entering s u own) here y

      pub certificate_inside : k < certificate_count s
      certificate_inside = x.link.within

      module _ {next : Option ℕ} (d : next ≡ entry_behind q k) {c : Certificate} (e : c ≡ certificate_at s k) where
        reached : Own u own [] (first_certificates s k)
        reached = skipped x k x.link.ahead (omega arith) (omega (arith, x.link.within))

        pub entering_own : {m : ℕ} → c.appointee ≡ u → m ≡ c.kind → Entering s u (set own (256 + m) true) next
        entering_own {m} same p =
            record { upto = k + 1; inside = omega (arith, x.link.within); marked = kinds_on s own u k [] c e reached m range x.link.within same p; link = link_behind queued x.link d }

        pub entering_other : c.appointee ≢ u → Entering s u own next
        entering_other other =
            record { upto = k + 1; inside = omega (arith, x.link.within); marked = kinds_past s own u k [] c e reached other; link = link_behind queued x.link d }

-- ── one row ──

-- row k is kept if those kept before it support it
pub kept_more : (w : World) (s : List ℕ) (k : ℕ) → kept w s (k + 1) ≡ keep (supported w) (kept w s k) (row_at s k)
kept_more w s k = ap (λ (l : List Row). left (supported w) l) (ap (first_rows s) (add-one k) ∙ rows_more s k) ∙ left_last (supported w) (first_rows s k) (row_at s k)

module _ (w : World) (s : List ℕ) (k : ℕ) {own : List Bool} (x : Own (row_at s k).user own (kept w s k) w.certificates) {r : Row} (e : r ≡ row_at s k) {b : Bool} (asked : b ≡ supported_by (has own) w r) where
  judged : b ≡ supported w (kept w s k) (row_at s k)
  judged = asked ∙ ap (supported_by (has own) w) e ∙ supported-own (row_at s k).user own (kept w s k) w x (row_at s k) refl

  kept_by : (t : Bool) → b ≡ t → cond t (kept w s k ++ (row_at s k ∷ [])) (kept w s k) ≡ kept w s (k + 1)
  kept_by t q = ap (λ (t : Bool). cond t (kept w s k ++ (row_at s k ∷ [])) (kept w s k)) (sym q ∙ judged) ∙ sym (kept_more w s k)

  pub row-falls : b ≡ false → (Falls ≡ verdict_at w s k) × Own (row_at s k).user own (kept w s (k + 1)) w.certificates
  row-falls q = (
    ap (λ (t : Bool). cond t (cond (active (kept w s k) (row_at s k).user (row_at s k).role) Twice Stays) Falls) (sym q ∙ judged),
    subst (λ (l : List Row). Own (row_at s k).user own l w.certificates) (kept_by false q) x,
  )

  module _ (range : InRange s) (there : k < row_count s) {m : ℕ} (d : m ≡ r.role) where
    role : m ≡ (row_at s k).role
    role = d ∙ ap (λ (y : Row). y.role) e

    -- the role has a mark
    pub role_has_mark : m < own_marks
    role_has_mark = omega (arith, role, (row_in_range s range k there).1)

    -- whether the mark says that the user is in the role
    in_role : (t : Bool) → get_or own m false ≡ t → active (kept w s k) (row_at s k).user (row_at s k).role ≡ t
    in_role t h = sym (x.roles_marked (row_at s k).role (row_in_range s range k there).1) ∙ ap (λ (n : ℕ). get_or own n false) (sym role) ∙ h

    said : (t : Bool) → b ≡ true → get_or own m false ≡ t → cond t Twice Stays ≡ verdict_at w s k
    said t q h = sym (ap (λ (a : Bool). cond a Twice Stays) (in_role t h)) ∙ ap (λ (a : Bool). cond a (cond (active (kept w s k) (row_at s k).user (row_at s k).role) Twice Stays) Falls) (sym q ∙ judged)

    pub row-twice : b ≡ true → get_or own m false ≡ true → (Twice ≡ verdict_at w s k) × Own (row_at s k).user own (kept w s (k + 1)) w.certificates
    row-twice q h = (
      said true q h,
      subst (λ (l : List Row). Own (row_at s k).user own l w.certificates) (kept_by true q) (row_again (row_at s k).user own (kept w s k) w.certificates x (row_at s k) (in_role true h)),
    )

    pub row_stays : b ≡ true → get_or own m false ≡ false → (Stays ≡ verdict_at w s k) × Own (row_at s k).user (set own m true) (kept w s (k + 1)) w.certificates
    row_stays q h = (
      said false q h,
      subst (λ (l : List Row). Own (row_at s k).user (set own m true) l w.certificates) (kept_by true q)
          (subst⁻¹ (λ (n : ℕ). Own (row_at s k).user (set own n true) (kept w s k ++ (row_at s k ∷ [])) w.certificates) role
          (row-own (row_at s k).user own (kept w s k) w.certificates x (row_at s k) refl (row_in_range s range k there).1)),
    )

-- The order theory of what is left. For any rows A and any test that says whether given rows support a row: what is left is the
-- largest part that supports itself; there is only one; taking away in turn is taking away at once; taking away less loses no more.
-- Nothing here knows what a row is: rows that rest on other things, or across users, are further instances.
use mathlib.Core.Path.{◌≡◌, refl, sym, ap, ◌∙◌, subst, subst⁻¹}
use mathlib.Core.Bool.{Bool, true, false, not, cond}
use mathlib.Core.Logic.{◌⊎◌, inl, inr}
use mathlib.Core.List.Memᴰ
use mathlib.Core.List.{List, [], ◌∷◌, ◌++◌, append_assoc, append-nil, Memᴰ}
use mathlib.Core.List.Sublistᴰ
use mathlib.Core.List.{Sublistᴰ}
use lib.Dec.{T}
use Rattle.model.specs.Lists.{all_over_earlier, without}
use Rattle.model.specs.Left.{keep, sweep, left, Supported, Largest}
use Rattle.model.proofs.Tests.{of_true, and_left, and_right, earlier_last}
use Rattle.model.proofs.Parts.{part_antisym, part-member, part-front, without-part, without-member, part_without}

module _ {A : Type 0} where
  -- ── largest parts, whatever the test ──

  pub one_largest : (supports : List A → A → Bool) (rows xs ys : List A) → Largest supports rows xs → Largest supports rows ys → xs ≡ ys
  one_largest supports rows xs ys a b = part_antisym xs ys (b.every_other xs a.part a.itself) (a.every_other ys b.part b.itself)

  -- rows that support themselves are their own largest part
  pub largest_whole : (supports : List A → A → Bool) (rows : List A) → Supported supports rows → Largest supports rows rows
  largest_whole supports rows s = record { part = Sublistᴰ.refl rows; itself = s; every_other = λ other d t. d }

  -- the second test asks for no less than the first
  abbrev pub Stricter : (List A → A → Bool) → (List A → A → Bool) → Type 0
  Stricter second first = (xs : List A) (r : A) → T (second xs r) → T (first xs r)

  -- what is taken away in two turns is what is taken away at once. `gone` says which rows are themselves taken away
  pub in_turn_or_at_once : (first second : List A → A → Bool) → Stricter second first → (gone : A → Bool) (rows xs ys zs : List A)
      → Largest first rows xs → Largest second (without gone xs) zs → Largest second (without gone rows) ys → zs ≡ ys
  in_turn_or_at_once first second less gone rows xs ys zs one two once =
      part_antisym zs ys
      (once.every_other zs
      (part_without gone zs rows (Sublistᴰ.trans two.part (Sublistᴰ.trans (without-part gone xs) one.part)) (λ x m. without-member gone xs x (part-member x zs _ two.part m)))
      two.itself)
      (two.every_other ys
      (part_without gone ys xs (one.every_other ys (Sublistᴰ.trans once.part (without-part gone rows)) (λ r m. less ys r (once.itself r m))) (λ x m. without-member gone rows x (part-member x ys _ once.part m)))
      once.itself)

  -- taking away less, by a test that is no stricter and with no more rows gone, loses no row that taking away more keeps
  pub less_keeps_more : (few many : List A → A → Bool) → Stricter many few → (gone more : A → Bool) → ((x : A) → T (not (more x)) → T (not (gone x))) → (rows xs ys : List A)
      → Largest few (without gone rows) xs → Largest many (without more rows) ys → Sublistᴰ ys xs
  less_keeps_more few many less gone more sub rows xs ys a b =
      a.every_other ys
      (part_without gone ys rows (Sublistᴰ.trans b.part (without-part more rows)) (λ x m. sub x (without-member more rows x (part-member x ys _ b.part m))))
      (λ r m. less ys r (b.itself r m))

  -- ── one forward pass finds the largest part ──

  -- what is asked of the test: more rows support no less, and rows that cannot serve r do not matter to r
  pub record Support (supports : List A → A → Bool) (Serves : A → A → Type 0) : Type 0 where
    pub grows : (xs ys : List A) (r : A) → ((x : A) → Memᴰ x xs → Memᴰ x ys) → T (supports xs r) → T (supports ys r)
    pub local : (xs ys : List A) (r : A) → ((s : A) → Memᴰ s ys → Serves s r → ⊥) → T (supports (xs ++ ys) r) → T (supports xs r)

  -- no row can serve itself or one before it
  abbrev pub Ordered : (A → A → Type 0) → List A → Type 0
  Ordered Serves [] = Unit {0}
  Ordered Serves (r ∷ rs) = ((s : A) → Memᴰ s (r ∷ rs) → Serves s r → ⊥) × Ordered Serves rs

  module _ (supports : List A → A → Bool) where
    sweep-part : (kept rs : List A) → Sublistᴰ (sweep supports kept rs) (kept ++ rs)
    sweep-part kept [] = subst⁻¹ (λ (l : List A). Sublistᴰ kept l) (append-nil kept) (Sublistᴰ.refl kept)
    sweep-part kept (r ∷ rs) = go (λ k. sweep-part k rs) (supports kept r)
      where
        go : ((k : List A) → Sublistᴰ (sweep supports k rs) (k ++ rs)) → (b : Bool) → Sublistᴰ (sweep supports (cond b (kept ++ (r ∷ [])) kept) rs) (kept ++ (r ∷ rs))
        go f true = subst (λ (l : List A). Sublistᴰ (sweep supports (kept ++ (r ∷ [])) rs) l) (append_assoc kept (r ∷ []) rs) (f (kept ++ (r ∷ [])))
        go f false = Sublistᴰ.trans (f kept) (Sublistᴰ.append (Sublistᴰ.refl kept) (Sublistᴰ.cons (Sublistᴰ.refl rs)))

    keep_grows : (kept : List A) (r : A) (b : Bool) → Sublistᴰ kept (cond b (kept ++ (r ∷ [])) kept)
    keep_grows kept r true = part-front kept (r ∷ [])
    keep_grows kept r false = Sublistᴰ.refl kept

    sweep_last : (kept rs : List A) (r : A) → sweep supports kept (rs ++ (r ∷ [])) ≡ keep supports (sweep supports kept rs) r
    sweep_last kept [] r = refl
    sweep_last kept (x ∷ rs) r = sweep_last (keep supports kept x) rs r

    -- one row more at the end is judged over what is left of those before
    pub left_last : (rs : List A) (r : A) → left supports (rs ++ (r ∷ [])) ≡ keep supports (left supports rs) r
    unfolding left
    left_last rs r = sweep_last [] rs r

    pub left-part : (rows : List A) → Sublistᴰ (left supports rows) rows
    unfolding left
    left-part rows = sweep-part [] rows

    -- rows each of which is supported by those before it are all left
    sweep_whole : (kept rs : List A) → T (all_over_earlier supports kept rs) → sweep supports kept rs ≡ kept ++ rs
    sweep_whole kept [] t = sym (append-nil kept)
    sweep_whole kept (r ∷ rs) t = go (supports kept r) (and_left (supports kept r) (all_over_earlier supports (kept ++ (r ∷ [])) rs) t) (sweep_whole (kept ++ (r ∷ [])) rs (and_right (supports kept r) (all_over_earlier supports (kept ++ (r ∷ [])) rs) t))
      where
        go : (b : Bool) → T b → sweep supports (kept ++ (r ∷ [])) rs ≡ (kept ++ (r ∷ [])) ++ rs → sweep supports (cond b (kept ++ (r ∷ [])) kept) rs ≡ kept ++ (r ∷ rs)
        go true u e = e ∙ append_assoc kept (r ∷ []) rs
        go false u e = absurd u

    pub left_whole : (rows : List A) → T (all_over_earlier supports [] rows) → left supports rows ≡ rows
    unfolding left
    left_whole rows t = sweep_whole [] rows t

    -- the rows left pass a test over those before them that holds wherever the old one held and the row is supported
    module _ (old new : List A → A → Bool) (renews : (kept earlier : List A) (r : A) → Sublistᴰ kept earlier → T (old earlier r) → T (supports kept r) → T (new kept r)) where
      sweep_earlier : (kept earlier rs : List A) → Sublistᴰ kept earlier → T (all_over_earlier new [] kept) → T (all_over_earlier old earlier rs) → T (all_over_earlier new [] (sweep supports kept rs))
      sweep_earlier kept earlier [] d n t = n
      sweep_earlier kept earlier (r ∷ rs) d n t = go (λ k u v. sweep_earlier k (earlier ++ (r ∷ [])) rs u v (and_right (old earlier r) (all_over_earlier old (earlier ++ (r ∷ [])) rs) t)) (supports kept r) refl
        where
          go : ((k : List A) → Sublistᴰ k (earlier ++ (r ∷ [])) → T (all_over_earlier new [] k) → T (all_over_earlier new [] (sweep supports k rs)))
              → (b : Bool) → supports kept r ≡ b → T (all_over_earlier new [] (sweep supports (cond b (kept ++ (r ∷ [])) kept) rs))
          go f true e = f (kept ++ (r ∷ [])) (Sublistᴰ.append d (Sublistᴰ.refl (r ∷ []))) (earlier_last new kept r n (renews kept earlier r d (and_left (old earlier r) (all_over_earlier old (earlier ++ (r ∷ [])) rs) t) (of_true (supports kept r) e)))
          go f false e = f kept (Sublistᴰ.trans d (part-front earlier (r ∷ []))) n

      pub left_earlier : (rows : List A) → T (all_over_earlier old [] rows) → T (all_over_earlier new [] (left supports rows))
      unfolding left
      left_earlier rows t = sweep_earlier [] [] rows Sublistᴰ.slnil tt t

    module _ (Serves : A → A → Type 0) (law : Support supports Serves) where
      sweep-supported : (kept rs : List A) → Supported supports kept → Supported supports (sweep supports kept rs)
      sweep-supported kept [] h = h
      sweep-supported kept (r ∷ rs) h = sweep-supported (keep supports kept r) rs (go (supports kept r) refl)
        where
          before : supports kept r ≡ true → (s : A) → Memᴰ s kept ⊎ Memᴰ s (r ∷ []) → T (supports kept s)
          before e s (inl m) = h s m
          before e s (inr m) = subst⁻¹ (λ (z : A). T (supports kept z)) (Memᴰ.eq_of_singleton m) (of_true (supports kept r) e)

          go : (b : Bool) → supports kept r ≡ b → Supported supports (cond b (kept ++ (r ∷ [])) kept)
          go true e s m = law.grows kept (kept ++ (r ∷ [])) s (λ x k. part-member x kept _ (part-front kept (r ∷ [])) k) (before e s (Memᴰ.append_cases kept m))
          go false e s m = h s m

      -- `others` supports itself together with `passed`, the part of it that was kept already
      sweep-holds : (kept rs passed others : List A) → Sublistᴰ passed kept → Sublistᴰ others rs → Ordered Serves rs
          → ((r : A) → Memᴰ r others → T (supports (passed ++ others) r)) → Sublistᴰ (passed ++ others) (sweep supports kept rs)
      sweep-holds kept [] passed others d e o h = subst⁻¹ (λ (l : List A). Sublistᴰ l kept) (ap (λ (l : List A). passed ++ l) (Sublistᴰ.eq-nil e) ∙ append-nil passed) d
      sweep-holds kept (r ∷ rs) passed others d e o h = go (λ k p zs u v w. sweep-holds k rs p zs u v o.1 w) (Sublistᴰ.cases_cons e)
        where
          Later : Type 0
          Later = (k p zs : List A) → Sublistᴰ p k → Sublistᴰ zs rs → ((x : A) → Memᴰ x zs → T (supports (p ++ zs) x)) → Sublistᴰ (p ++ zs) (sweep supports k rs)

          moved : (zs : List A) → others ≡ r ∷ zs → passed ++ others ≡ (passed ++ (r ∷ [])) ++ zs
          moved zs q = ap (λ (l : List A). passed ++ l) q ∙ sym (append_assoc passed (r ∷ []) zs)

          -- nothing from r on serves r, so what was passed supports it alone
          stays : (zs : List A) → others ≡ r ∷ zs → Sublistᴰ zs rs → T (supports kept r)
          stays zs q u =
              law.grows passed kept r (λ x m. part-member x passed kept d m)
              (law.local passed (r ∷ zs) r (λ s m v. o.0 s (part-member s (r ∷ zs) (r ∷ rs) (Sublistᴰ.cons-cons refl u) m) v)
              (subst (λ (l : List A). T (supports (passed ++ l) r)) q (h r (subst⁻¹ (λ (l : List A). Memᴰ r l) q (Memᴰ.head refl)))))

          taken : Later → (zs : List A) → others ≡ r ∷ zs → Sublistᴰ zs rs → (b : Bool) → supports kept r ≡ b → Sublistᴰ (passed ++ others) (sweep supports (cond b (kept ++ (r ∷ [])) kept) rs)
          taken f zs q u true w =
              subst⁻¹ (λ (l : List A). Sublistᴰ l (sweep supports (kept ++ (r ∷ [])) rs)) (moved zs q)
              (f (kept ++ (r ∷ [])) (passed ++ (r ∷ [])) zs (Sublistᴰ.append d (Sublistᴰ.refl (r ∷ []))) u
              (λ x m. subst (λ (l : List A). T (supports l x)) (moved zs q) (h x (subst⁻¹ (λ (l : List A). Memᴰ x l) q (Memᴰ.tail m)))))
          taken f zs q u false w = absurd (subst T w (stays zs q u))

          go : Later → Sublistᴰ others rs ⊎ ((zs : List A) × (others ≡ r ∷ zs) × Sublistᴰ zs rs) → Sublistᴰ (passed ++ others) (sweep supports (keep supports kept r) rs)
          go f (inl u) = f (keep supports kept r) passed others (Sublistᴰ.trans d (keep_grows kept r (supports kept r))) u h
          go f (inr t) = taken f t.0 t.1 t.2 (supports kept r) refl

      pub left_largest : (rows : List A) → Ordered Serves rows → Largest supports rows (left supports rows)
      unfolding left
      left_largest rows o =
          record {
            part = left-part rows;
            itself = sweep-supported [] rows (λ r m. absurd (Memᴰ.not-nil m));
            every_other = λ other d s. sweep-holds [] rows [] other Sublistᴰ.slnil d o s;
          }

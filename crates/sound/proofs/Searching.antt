-- Searches: what they find when no certificate was seen, what is known on the way, and what they find when one more was entered.
use Prim.Native.Nat.{ℕ, zero, suc, ◌+◌, ◌/◌, ◌≤◌, ◌<◌}
use mathlib.Core.Path.{◌≡◌, refl, sym, ap, ◌∙◌, subst, subst⁻¹}
use mathlib.Core.Bool.{Bool, true, false, true≢false, ◌&&◌}
use mathlib.Core.Logic.{◌⊎◌, inl, inr, ◌≢◌}
use mathlib.Core.List.{List, map, [], ◌∷◌}
use native.Mathlib.Omega.{arith}
use native.Mathlib.Nat.{eq-or-lt_of_le}
use native.Mathlib.Numerals.{add-one}
use lib.Dec.{eqb, eqb→eq}
use lib.ListN.{length, get_or, set, replicate, length-set, length-replicate, get_or-replicate}
use lib.Seq.{get_or-set_same, get_or-set_other}
use denote.Ref.{Bor}
use Rattle.std.specs.declared.option.Option.{Option}
use Rattle.std.specs.declared.option.Option.TheVariants.{None, Some}
use Rattle.std.proofs.lemmas.List.{get_or-map, map-set, length-map}
use borrow.Author.Tests.{eq-eqb}
use Rattle.model.specs.Lists.{any}
use Rattle.model.specs.Layout.{certificate_from, certificate_numbers}
use Rattle.model.specs.Sound.{same_certificate}
use Rattle.model.specs.declared.Certificate.{Certificate}
use Rattle.model.proofs.Tests.{of_true, each, eq_or_ne}
use Rattle.table.specs.Entries.{certificate_at, first_certificates}
use Rattle.table.proofs.Entries.{any_next}
use Rattle.sound.specs.declared.SearchTrees.{SearchTrees}
use Rattle.sound.specs.Seen.{beginning, bits, turn, Leads, Seen, linked, Finds}

pub seen_none : (s : List ℕ) → Seen s 0 (replicate 1536 256)
seen_none s =
    record {
      size = length-replicate {A = ℕ} 1536 256;
      ahead = λ k b h. subst⁻¹ (λ (x : ℕ). k < x) (get_or-replicate 1536 (turn k b) 256 0 (omega arith)) h;
      found = λ j h. absurd (omega arith);
    }

-- ── links ──

no_links : (n : ℕ) → map linked (replicate n None) ≡ replicate n 256
no_links zero = refl
no_links (suc n) = ap (λ (l : List ℕ). 256 ∷ l) (no_links n)

none-linked : (n at k : ℕ) → get_or (replicate n None) at None ≡ Some k → ⊥
none-linked zero at k e = cc
none-linked (suc n) zero k e = cc
none-linked (suc n) (suc at) k e = none-linked n at k e

pub finds_none : (state : Bor (List ℕ)) → length state.now ≡ 1602 → Finds (record { state = state; links = replicate 1536 None }) 0
finds_none state e = record { size = e; seen = subst⁻¹ (Seen state.now 0) (no_links 1536) (seen_none state.now); earlier = λ at k h. absurd (none-linked 1536 at k h) }

pub link_is : (links : List (Option ℕ)) (at : ℕ) (o : Option ℕ) → at < length (map linked links) → get_or links at None ≡ o → linked o ≡ get_or (map linked links) at 0
link_is links at o h e = sym (get_or-map linked links at None 0 (omega (arith, length-map links linked)) ∙ ap linked e)

-- ── equal certificates are one ──

module _ (c d : Certificate) where
  same_is : same_certificate c d ≡ true → c ≡ d
  same_is e =
      let h = each (eqb c.appointee d.appointee ∷ eqb c.kind d.kind ∷ eqb c.appointer d.appointer ∷ []) (of_true (same_certificate c d) e) in
      λ i. record { appointee = eqb→eq c.appointee d.appointee h.0 i; kind = eqb→eq c.kind d.kind h.1.0 i; appointer = eqb→eq c.appointer d.appointer h.1.1.0 i }

  is_same : c ≡ d → same_certificate c d ≡ true
  is_same e = λ i. eq-eqb c.appointee d.appointee (ap (λ (x : Certificate). x.appointee) e) i && (eq-eqb c.kind d.kind (ap (λ (x : Certificate). x.kind) e) i && (eq-eqb c.appointer d.appointer (ap (λ (x : Certificate). x.appointer) e) i && true))

-- ── links that stay ──

-- where a certificate before i is linked
abbrev Stay : ℕ → List ℕ → List ℕ → Type 0
Stay i links links' = (at : ℕ) → get_or links at 0 < i → get_or links' at 0 ≡ get_or links at 0

-- a search that comes to a certificate before i goes by such links
leads_stay : (i : ℕ) (links links' : List ℕ) → Stay i links links' → (n at b k : ℕ) → k < i → Leads links n at b k → Leads links' n at b k
leads_stay i links links' st zero at b k h e = st at (subst⁻¹ (λ (x : ℕ). x < i) e h) ∙ e
leads_stay i links links' st (suc n) at b k h l =
    let e = st at (omega (arith, l.0)) in
    (subst⁻¹ (λ (x : ℕ). x < k) e l.0, subst⁻¹ (λ (x : ℕ). Leads links' n (turn x b) (b / 2) k) e (leads_stay i links links' st n (turn (get_or links at 0) b) (b / 2) k h l.1))

-- ── on the way ──

-- At `at`, with the bits b left: what equals certificate i lies ahead, and what is entered ahead will be found.
pub record OnWay (s : List ℕ) (i : ℕ) (links : List ℕ) (at b : ℕ) : Type 0 where
  pub inside : at < 1536
  pub later : (k d : ℕ) → at ≡ turn k d → k < i
  pub lies : (j : ℕ) → j < i → certificate_at s i ≡ certificate_at s j → (n : ℕ) × Leads links n at b j
  pub back : (links' : List ℕ) → Stay i links links' → (n : ℕ) → Leads links' n at b i → (m : ℕ) × Leads links' m (beginning (certificate_at s i)) (bits (certificate_at s i)) i

module _ (s : List ℕ) (i : ℕ) (links : List ℕ) where
  pub way_begins : (c : Certificate) (at b : ℕ) → Seen s i links → c ≡ certificate_at s i → at < 1024 → at ≡ beginning c → b ≡ bits c → OnWay s i links at b
  way_begins c at b x e h ea eb =
      let a : at ≡ beginning (certificate_at s i) = ea ∙ ap beginning e in
      let d : b ≡ bits (certificate_at s i) = eb ∙ ap bits e in
      record {
        inside = omega arith;
        later = λ k y q. absurd (omega arith);
        lies = λ j g q. let f = x.found j g in (f.0, subst⁻¹ (λ (y : ℕ). Leads links f.0 y b j) (a ∙ ap beginning q) (subst⁻¹ (λ (y : ℕ). Leads links f.0 (beginning (certificate_at s j)) y j) (d ∙ ap bits q) f.1));
        back = λ links' st n l. (n, subst (λ (y : ℕ). Leads links' n y (bits (certificate_at s i)) i) a (subst (λ (y : ℕ). Leads links' n at y i) d l));
      }

  module _ (at b k : ℕ) (w : OnWay s i links at b) (e : k ≡ get_or links at 0) where
    -- certificate k, to which the search has come, is another
    pub way_on : (c d : Certificate) → c ≡ certificate_at s i → d ≡ certificate_at s k → k < i → i < 256 → same_certificate c d ≡ false → OnWay s i links (turn k b) (b / 2)
    way_on c d ec ed h few other =
        record {
          inside = omega arith;
          later = λ p y q. let same : p ≡ k = omega arith in omega arith;
          lies = λ j g q. further j q (w.lies j g q);
          back = λ links' st n l. w.back links' st (suc n) (more links' (st at (subst (λ (x : ℕ). x < i) e h)) n l);
        }
      where
        further : (j : ℕ) → certificate_at s i ≡ certificate_at s j → (n : ℕ) × Leads links n at b j → (n : ℕ) × Leads links n (turn k b) (b / 2) j
        further j q (zero, l) = absurd (true≢false (sym (is_same c d (ec ∙ q ∙ ap (certificate_at s) (sym (e ∙ l)) ∙ sym ed)) ∙ other))
        further j q (suc n, l) = (n, subst⁻¹ (λ (x : ℕ). Leads links n (turn x b) (b / 2) j) e l.1)

        more : (links' : List ℕ) → get_or links' at 0 ≡ get_or links at 0 → (n : ℕ) → Leads links' n (turn k b) (b / 2) i → Leads links' (suc n) at b i
        more links' q n l = (subst⁻¹ (λ (x : ℕ). x < i) (q ∙ sym e) h, subst⁻¹ (λ (x : ℕ). Leads links' n (turn x b) (b / 2) i) (q ∙ sym e) l)

    -- ── the search has ended ──

    module _ (ends : i ≤ k) where
      another : (j : ℕ) → j < i → same_certificate (certificate_at s i) (certificate_at s j) ≡ false
      another j h = go (same_certificate (certificate_at s i) (certificate_at s j)) refl
        where
          stops : (n : ℕ) × Leads links n at b j → ⊥
          stops (zero, l) = omega (arith, l)
          stops (suc n, l) = omega (arith, l.0)

          go : (t : Bool) → same_certificate (certificate_at s i) (certificate_at s j) ≡ t → same_certificate (certificate_at s i) (certificate_at s j) ≡ false
          go false q = q
          go true q = absurd (stops (w.lies j h (same_is (certificate_at s i) (certificate_at s j) q)))

      up_to : (m : ℕ) → m ≤ i → any (same_certificate (certificate_at s i)) (first_certificates s m) ≡ false
      unfolding first_certificates certificate_at
      up_to zero h = refl
      up_to (suc m) h = ap (λ (n : ℕ). any (same_certificate (certificate_at s i)) (first_certificates s n)) (sym (add-one m)) ∙ any_next certificate_from 3 (same_certificate (certificate_at s i)) (certificate_numbers s) m (up_to m (omega arith)) (another m (omega arith))

      pub way_ends : any (same_certificate (certificate_at s i)) (first_certificates s i) ≡ false
      way_ends = up_to i (omega arith)

      pub seen_more : Seen s i links → Seen s (i + 1) (set links at i)
      seen_more x = record { size = length-set links at i ∙ x.size; ahead = λ p d h. ahead' p d h (eq_or_ne (turn p d) at); found = λ j h. let l : j ≤ i = omega arith in found' j (eq-or-lt_of_le l) }
        where
          stay : Stay i links (set links at i)
          stay y h = get_or-set_other links at y i 0 (λ q. omega (arith, ap (λ (z : ℕ). get_or links z 0) q))

          ahead' : (p d : ℕ) → p < 256 → (turn p d ≡ at) ⊎ (turn p d ≢ at) → p < get_or (set links at i) (turn p d) 0
          ahead' p d h (inl q) = subst⁻¹ (λ (y : ℕ). p < y) (ap (λ (y : ℕ). get_or (set links at i) y 0) q ∙ get_or-set_same links at i 0 (omega (arith, w.inside, x.size))) (w.later p d (sym q))
          ahead' p d h (inr q) = subst⁻¹ (λ (y : ℕ). p < y) (get_or-set_other links at (turn p d) i 0 q) (x.ahead p d h)

          own : (n : ℕ) × Leads (set links at i) n (beginning (certificate_at s i)) (bits (certificate_at s i)) i
          own = w.back (set links at i) stay 0 (get_or-set_same links at i 0 (omega (arith, w.inside, x.size)))

          found' : (j : ℕ) → (j ≡ i) ⊎ (j < i) → (n : ℕ) × Leads (set links at i) n (beginning (certificate_at s j)) (bits (certificate_at s j)) j
          found' j (inl q) = subst⁻¹ (λ (y : ℕ). (n : ℕ) × Leads (set links at i) n (beginning (certificate_at s y)) (bits (certificate_at s y)) y) q own
          found' j (inr h) = let f = x.found j h in (f.0, leads_stay i links (set links at i) stay f.0 (beginning (certificate_at s j)) (bits (certificate_at s j)) j h f.1)

-- ── the trees, with certificate i entered ──

module _ (trees : SearchTrees) (i : ℕ) (f : Finds trees i) (at b : ℕ) (w : OnWay trees.state.now i (map linked trees.links) at b) (e : get_or trees.links at None ≡ None) (few : i < 256) where
  free : 256 ≡ get_or (map linked trees.links) at 0
  free = link_is trees.links at None (omega (arith, w.inside, f.seen.size)) e

  pub stands_nowhere : any (same_certificate (certificate_at trees.state.now i)) (first_certificates trees.state.now i) ≡ false
  stands_nowhere = way_ends trees.state.now i (map linked trees.links) at b 256 w free (omega arith)

  pub finds_more : Finds (record { state = trees.state; links = set trees.links at (Some i) }) (i + 1)
  finds_more =
      record {
        size = f.size;
        seen = subst⁻¹ (Seen trees.state.now (i + 1)) (map-set linked trees.links at (Some i)) (seen_more trees.state.now i (map linked trees.links) at b 256 w free (omega arith) f.seen);
        earlier = λ y k h. before y k h (eq_or_ne y at);
      }
    where
      before : (y k : ℕ) → get_or (set trees.links at (Some i)) y None ≡ Some k → (y ≡ at) ⊎ (y ≢ at) → k < i + 1
      before y k h (inl q) =
          let own : Some i ≡ Some k = sym (ap (λ (z : ℕ). get_or (set trees.links at (Some i)) z None) q ∙ get_or-set_same trees.links at (Some i) None (omega (arith, w.inside, f.seen.size, length-map trees.links linked))) ∙ h in
          let same : i ≡ k = cc in
          omega arith
      before y k h (inr q) = let l = f.earlier y k (sym (get_or-set_other trees.links at y (Some i) None q) ∙ h) in omega (arith, l)

-- What a condition's number means, by the range in which it stands.
use Prim.Native.Nat.{ℕ, ◌+◌, ◌-◌, ◌≤◌, ◌<◌}
use mathlib.Core.Path.{◌≡◌, refl, ◌∙◌}
use mathlib.Core.Logic.{◌⊎◌, inl, inr}
use native.Mathlib.Omega.{arith}
use borrow.Author.Tests.{lt-ltb, le-ltb}
use Rattle.model.specs.Conditions.{role, kind, fact, malformed, meant}
use Rattle.model.proofs.Tests.{lt_or_ge}

pub meant-role : (c : ℕ) → c < 256 → meant c ≡ role c
unfolding meant
meant-role c h = rw (lt-ltb c 256 h) refl

pub meant-kind : (c : ℕ) → 256 ≤ c → c < 384 → meant c ≡ kind (c - 256)
unfolding meant
meant-kind c h m = rw (le-ltb c 256 h, lt-ltb c 384 m) refl

pub meant-fact : (c : ℕ) → 384 ≤ c → c < 448 → meant c ≡ fact (c - 384)
unfolding meant
meant-fact c h m = let k : 256 ≤ c = omega arith in rw (le-ltb c 256 k, le-ltb c 384 h, lt-ltb c 448 m) refl

pub meant-nothing : (c : ℕ) → 448 ≤ c → meant c ≡ malformed
unfolding meant
meant-nothing c h = let k : 256 ≤ c = omega arith in let m : 384 ≤ c = omega arith in rw (le-ltb c 256 k, le-ltb c 384 m, le-ltb c 448 h) refl

-- a role, a kind and a fact by their own numbers are in range
pub role_in_range : (c q : ℕ) → role q ≡ meant c → (q ≡ c) × (q < 256)
role_in_range c q e = go (lt_or_ge c 256) (lt_or_ge c 384) (lt_or_ge c 448)
  where
    go : (c < 256) ⊎ (256 ≤ c) → (c < 384) ⊎ (384 ≤ c) → (c < 448) ⊎ (448 ≤ c) → (q ≡ c) × (q < 256)
    go (inl h) m n = let p : role q ≡ role c = e ∙ meant-role c h in let r : q ≡ c = cc in (r, omega arith)
    go (inr h) (inl m) n = let p : role q ≡ kind (c - 256) = e ∙ meant-kind c h m in absurd (cc)
    go (inr h) (inr m) (inl n) = let p : role q ≡ fact (c - 384) = e ∙ meant-fact c m n in absurd (cc)
    go (inr h) (inr m) (inr n) = let p : role q ≡ malformed = e ∙ meant-nothing c n in absurd (cc)

pub kind_in_range : (c k : ℕ) → kind k ≡ meant c → (256 + k ≡ c) × (k < 128)
kind_in_range c k e = go (lt_or_ge c 256) (lt_or_ge c 384) (lt_or_ge c 448)
  where
    go : (c < 256) ⊎ (256 ≤ c) → (c < 384) ⊎ (384 ≤ c) → (c < 448) ⊎ (448 ≤ c) → (256 + k ≡ c) × (k < 128)
    go (inl h) m n = let p : kind k ≡ role c = e ∙ meant-role c h in absurd (cc)
    go (inr h) (inl m) n = let p : kind k ≡ kind (c - 256) = e ∙ meant-kind c h m in let r : k ≡ c - 256 = cc in (omega arith, omega arith)
    go (inr h) (inr m) (inl n) = let p : kind k ≡ fact (c - 384) = e ∙ meant-fact c m n in absurd (cc)
    go (inr h) (inr m) (inr n) = let p : kind k ≡ malformed = e ∙ meant-nothing c n in absurd (cc)

pub fact_in_range : (c f : ℕ) → fact f ≡ meant c → f < 64
fact_in_range c f e = go (lt_or_ge c 256) (lt_or_ge c 384) (lt_or_ge c 448)
  where
    go : (c < 256) ⊎ (256 ≤ c) → (c < 384) ⊎ (384 ≤ c) → (c < 448) ⊎ (448 ≤ c) → f < 64
    go (inl h) m n = let p : fact f ≡ role c = e ∙ meant-role c h in absurd (cc)
    go (inr h) (inl m) n = let p : fact f ≡ kind (c - 256) = e ∙ meant-kind c h m in absurd (cc)
    go (inr h) (inr m) (inl n) = let p : fact f ≡ fact (c - 384) = e ∙ meant-fact c m n in let r : f ≡ c - 384 = cc in omega arith
    go (inr h) (inr m) (inr n) = let p : fact f ≡ malformed = e ∙ meant-nothing c n in absurd (cc)

-- Asking without asking twice: a mark for each role and each kind, by the number by which a rule names it, says whether it is asked.
use Rattle.std.specs.Prelude.{ℕ, ◌≤◌, ◌<◌, ◌≡◌, Bool, true, false, ◌⊎◌, length, get_or}
use mathlib.Core.List.{List, [], ◌∷◌, Memᴰ}
use Rattle.model.specs.Limits.{roles}
use Rattle.model.specs.Layout.{policy_of}
use Rattle.model.specs.Conditions.{meant, roles_asked}
use Rattle.table.specs.Entries.{without_rights}

-- a mark for each role and each kind
abbrev pub asked_marks : ℕ
asked_marks = 384

module _ (kinds : List ℕ) where
  -- the roles that the condition asks for are marked
  abbrev pub HasAsked : List Bool → ℕ → Type 0
  HasAsked asked c = (q : ℕ) → q < roles → Memᴰ q (roles_asked (policy_of (without_rights [] kinds)) (meant c)) → get_or asked q false ≡ true

  -- a kind that is marked has asked for its prerequisite roles
  abbrev pub AskedThrough : List Bool → Type 0
  AskedThrough asked = (c : ℕ) → roles ≤ c → get_or asked c false ≡ true → HasAsked asked c

  -- marks were added, of roles only such as one of the first n conditions asks for
  pub record Grown (before after : List Bool) (conditions : List ℕ) (n : ℕ) : Type 0 where
    pub closed : AskedThrough after
    pub keeps : (c : ℕ) → get_or before c false ≡ true → get_or after c false ≡ true
    pub only : (q : ℕ) → q < roles → get_or after q false ≡ true → (get_or before q false ≡ true) ⊎ ((j : ℕ) × (j < n) × Memᴰ q (roles_asked (policy_of (without_rights [] kinds)) (meant (get_or conditions j 0))))

  -- what the condition asks for was added, and nothing else
  pub record ConditionAsked (before after : List Bool) (c : ℕ) : Type 0 where
    pub grown : Grown before after (c ∷ []) 1
    pub answered : HasAsked after c

-- the condition has asked, or it is a kind and nothing was added
pub record Known (before after : List Bool) (c : ℕ) (r : Bool) : Type 0 where
  pub known : r ≡ true → (kinds : List ℕ) → AskedThrough kinds before → ConditionAsked kinds before after c
  pub unknown : r ≡ false → (after ≡ before) × (roles ≤ c) × (c < asked_marks)

-- the conditions have asked, or some of them have
pub record RowAsked (conditions : List ℕ) (before after : List Bool) (r : Bool) : Type 0 where
  pub grown : (kinds : List ℕ) → AskedThrough kinds before → Grown kinds before after conditions (length conditions)
  pub each : r ≡ true → (kinds : List ℕ) → AskedThrough kinds before → (j : ℕ) → j < length conditions → HasAsked kinds after (get_or conditions j 0)

-- The roles that have a privilege themselves, as a list with an entry for each role.
use Rattle.std.specs.Prelude.{ℕ, ◌≡◌, Bool, false, ◌&&◌, List, [], T, eqb, ltb, get_or}
use Rattle.model.specs.Lists.{all, any}
use Rattle.model.specs.Limits.{roles}
use Rattle.model.specs.Layout.{policy_of, right_from}
use Rattle.model.specs.Sound.{right_fits}
use Rattle.model.specs.Effective.{is_right, direct}
use Rattle.table.specs.Entries.{entries, lent}

-- each right names a role and a privilege that there are
abbrev pub RightsFit : List ℕ → Type 0
RightsFit rights = T (all right_fits (policy_of (lent [] [] rights)).rights)

-- the number x is one of these
abbrev pub met : List ℕ → ℕ → Bool
met numbers x = any (λ (n : ℕ). eqb n x) numbers

-- entry q says whether one of the first i rights is role q's to the privilege x
abbrev pub Said : List ℕ → ℕ → ℕ → List Bool → Type 0
Said rights x i having = (q : ℕ) → get_or having q false ≡ any (is_right x q) (entries right_from 2 rights i)

-- the role is one of those that have the privilege; the list has an entry for each role
unfoldable pub holds_right : List Bool → ℕ → Bool
holds_right having q = ltb q roles && get_or having q false

-- those are the roles that have the privilege x themselves
unfoldable pub Having : List ℕ → ℕ → List Bool → Type 0
Having rights x having = (q : ℕ) → holds_right having q ≡ direct (policy_of (lent [] [] rights)) q x

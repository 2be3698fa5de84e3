-- What one user's own marks say, of rows and certificates in range.
use Rattle.std.specs.Prelude.{ℕ, ◌+◌, ◌≤◌, ◌<◌, ◌≡◌, Bool, false, length}
use mathlib.Core.List.{List, Memᴰ}
use Rattle.model.specs.Limits.{users, roles, most_kinds}
use Rattle.model.specs.Layout.{decode}
use Rattle.model.specs.Conditions.{active, some_stands}
use Rattle.model.specs.declared.Row.{Row}
use Rattle.model.specs.declared.Certificate.{Certificate}
use Rattle.table.specs.Entries.{Sized}
use Rattle.marks.specs.Marked.{own_marks, has}

abbrev pub CertificatesInRange : List ℕ → Type 0
CertificatesInRange s = (c : Certificate) → Memᴰ c (decode s).certificates → (c.appointee < users) × (c.kind < most_kinds)

-- the ranges that a sound state keeps
pub record InRange (s : List ℕ) : Type 0 where
  pub sized : Sized s
  pub rows : (r : Row) → Memᴰ r (decode s).rows → (r.user < users) × (r.role < roles)
  pub certificates : CertificatesInRange s

-- the marks say what these rows and certificates say of this user
pub record Own (u : ℕ) (own : List Bool) (rows : List Row) (certificates : List Certificate) : Type 0 where
  pub size : length own ≡ own_marks
  pub roles_marked : (q : ℕ) → q < roles → has own q ≡ active rows u q
  pub kinds_marked : (k : ℕ) → k < most_kinds → has own (256 + k) ≡ some_stands certificates u k
  pub beyond : (q : ℕ) → roles ≤ q → active rows u q ≡ false

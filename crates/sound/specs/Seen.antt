-- Where a certificate that was seen is found again: a search begins at its own place, and at each certificate on its way turns by the next
-- of its bits.
use Rattle.std.specs.Prelude.{ℕ, zero, suc, ◌+◌, ◌*◌, ◌/◌, ◌%◌, ◌<◌, ◌≡◌, List, map, length, get_or, Option, None, Some}
use Rattle.model.specs.Limits.{state_size}
use Rattle.model.specs.declared.Certificate.{Certificate}
use Rattle.table.specs.Entries.{certificate_at}
use Rattle.sound.specs.declared.SearchTrees.{SearchTrees}

abbrev pub beginning : Certificate → ℕ
beginning c = (c.appointee * 129 + (c.kind + c.appointer * 61)) % 1024

abbrev pub bits : Certificate → ℕ
bits c = c.appointee + (c.appointer + c.kind * 4096) * 4096

-- where it goes on behind certificate k
abbrev pub turn : ℕ → ℕ → ℕ
turn k b = 1024 + (k * 2 + b % 2)

-- from `at` on, after n turns, it comes to certificate k, and passes earlier ones only
abbrev pub Leads : List ℕ → ℕ → ℕ → ℕ → ℕ → Type 0
Leads links zero at b k = get_or links at 0 ≡ k
Leads links (suc n) at b k = (get_or links at 0 < k) × Leads links n (turn (get_or links at 0) b) (b / 2) k

-- each of the first i certificates is found by a search for it
pub record Seen (s : List ℕ) (i : ℕ) (links : List ℕ) : Type 0 where
  pub size : length links ≡ 1536
  pub ahead : (k b : ℕ) → k < 256 → k < get_or links (turn k b) 0
  pub found : (j : ℕ) → j < i → (n : ℕ) × Leads links n (beginning (certificate_at s j)) (bits (certificate_at s j)) j

-- the certificate that a link leads to, and a number that is none's where it leads to none
abbrev pub linked : Option ℕ → ℕ
linked None = 256
linked (Some k) = k

-- the trees find each of the first i certificates, and link no other
pub record Finds (trees : SearchTrees) (i : ℕ) : Type 0 where
  pub size : length trees.state.now ≡ state_size
  pub seen : Seen trees.state.now i (map linked trees.links)
  pub earlier : (at k : ℕ) → get_or trees.links at None ≡ Some k → k < i

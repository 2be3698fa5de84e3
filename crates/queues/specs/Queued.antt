-- What a queue says of the entries of a table: which one comes next, and that none of its own was passed over.
use Rattle.std.specs.Prelude.{ℕ, ◌+◌, ◌*◌, ◌%◌, ◌≤◌, ◌<◌, ◌≡◌, ◌≢◌, cond, Option, Some, None, List, ltb, length, get_or, replicate}
use Rattle.queues.specs.declared.Queues.{Queues}

-- how many numbers an entry has, and how many entries a table has at most
abbrev pub entry_width : ℕ
entry_width = 3

abbrev pub most_entries : ℕ
most_entries = 256

-- the user of entry i, where the entries stand from `place` on
abbrev pub user_at : List ℕ → ℕ → ℕ → ℕ
user_at s place i = get_or s (i * entry_width + place) 0

-- the queue that a user's entries are in, and how many queues there are
abbrev pub queues : ℕ
queues = 512

abbrev pub queue : ℕ → ℕ
queue u = u % queues

-- stands in the place of an entry where there is none
abbrev pub no_entry : ℕ
no_entry = most_entries

-- the entry that a number stands for, if it stands for one
abbrev pub entry : ℕ → Option ℕ
entry k = cond (ltb k no_entry) (Some k) None

-- of n entries, k is the first from i on that is in queue b
pub record FirstAt (s : List ℕ) (place n b i k : ℕ) : Type 0 where
  pub ahead : i ≤ k
  pub within : k < n
  pub there : queue (user_at s place k) ≡ b
  pub first : (h : ℕ) → i ≤ h → h < n → queue (user_at s place h) ≡ b → k ≤ h

-- of n entries, the first from i on that is in queue b, if there is one
abbrev pub Link : List ℕ → ℕ → ℕ → ℕ → ℕ → Option ℕ → Type 0
Link s place n b i None = (h : ℕ) → i ≤ h → h < n → queue (user_at s place h) ≢ b
Link s place n b i (Some k) = FirstAt s place n b i k

-- the entries from i on are queued: each queue's first stands in `heads`
pub record Begins (s : List ℕ) (place n i : ℕ) (heads : List ℕ) : Type 0 where
  pub size : length heads ≡ queues
  pub begins : (b : ℕ) → b < queues → Link s place n b i (entry (get_or heads b 0))

-- and behind each entry the next of its queue in `next`
pub record GoesOn (s : List ℕ) (place n i : ℕ) (next : List ℕ) : Type 0 where
  pub size : length next ≡ most_entries
  pub goes_on : (k : ℕ) → i ≤ k → k < n → Link s place n (queue (user_at s place k)) (k + 1) (entry (get_or next k 0))

-- all n entries that stand from `place` on are queued
pub record Queued (s : List ℕ) (place n : ℕ) (q : Queues) : Type 0 where
  pub begun : Begins s place n 0 q.heads
  pub behind : GoesOn s place n 0 q.next

-- no entry is queued yet
abbrev pub unqueued : Queues
unqueued = record { heads = replicate queues no_entry; next = replicate most_entries no_entry }

-- the first entry of the user's queue, and the entry that comes behind entry k in its queue
abbrev pub first_entry : Queues → ℕ → Option ℕ
first_entry q u = entry (get_or q.heads (queue u) 0)

abbrev pub entry_behind : Queues → ℕ → Option ℕ
entry_behind q k = entry (get_or q.next k 0)

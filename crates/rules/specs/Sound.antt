-- What holds of every state that a run comes to.
use Rattle.std.specs.Prelude.{◌≡◌, ℕ, ◌+◌, ◌<◌, ◌≤◌, Bool, true, false, cond, ◌&&◌, ◌≢◌, List, [], ◌∷◌, length, is_some, Some, All, ◌==◌, nat_le, nat_lt}
use Rattle.std.specs.Option.{option_to_list}
use Rattle.chain.specs.Lists.{count, has, sorted}
use Rattle.rules.specs.State.{Request, State, Table, Task, blank, level_of, queue_of, record_in}
use Rattle.rules.specs.Records.{all_askers, sleepers, waiters}
use Rattle.rules.specs.Clock.{last_reading}
use Rattle.rules.specs.Transfers.{longest, writes}

-- how often the record k stands in a table: free, running, ready or suspended
unfoldable pub in_table : ℕ → Table → ℕ
in_table k a = count k a.free + (count k (option_to_list a.running) + (count k a.ready + count k a.suspended))

-- how often it waits: for a due tick, at a cell or at a unit
abbrev pub in_waits : ℕ → State → ℕ
in_waits k s = count k (sleepers s.sleeping) + (count k (waiters s.cells.waits) + count k (all_askers s.queues))

-- every record is at exactly one place, and nothing else is at any
abbrev pub OnePlace : State → Type 0
OnePlace s = (k : ℕ) → in_table k s.table + in_waits k s ≡ cond (nat_lt k (length s.table.tasks)) 1 0

-- a running, ready or free record has no mark, a suspended one has it; a waiting one may have it
pub record Marks (a : Table) : Type 0 where
  pub running : (k : ℕ) → a.running ≡ Some k → (record_in a k).mark ≡ false
  pub ready : (k : ℕ) → has k a.ready ≡ true → (record_in a k).mark ≡ false
  pub free : (k : ℕ) → has k a.free ≡ true → (record_in a k).mark ≡ false
  pub suspended : (k : ℕ) → has k a.suspended ≡ true → (record_in a k).mark ≡ true

-- a free record has every field 0
abbrev pub FreeAreBlank : Table → Type 0
FreeAreBlank a = (k : ℕ) → has k a.free ≡ true → record_in a k ≡ blank

-- no two records have the same id, unless it is 0
abbrev pub UniqueIds : Table → Type 0
UniqueIds a = (i k : ℕ) → (record_in a i).id ≡ (record_in a k).id → (record_in a i).id ≢ 0 → i ≡ k

-- a request is one that its task can have: some bytes are still to be moved, at most 80 in all; of a write the transfer bytes
-- are as many as its size, and of a read as many as were moved
abbrev pub fits : Task → Request → Bool
fits t r = nat_lt r.moved r.size && (nat_le r.size longest && (is_some t.kind && length t.bytes == cond (writes t.kind) r.size r.moved))

abbrev pub all_fit : Table → List Request → Bool
all_fit a [] = true
all_fit a (r ∷ rs) = fits (record_in a r.task) r && all_fit a rs

-- all of it, of a state
pub record Sound (s : State) : Type 0 where
  pub one_place : OnePlace s
  pub marks : Marks s.table
  pub free_are_blank : FreeAreBlank s.table
  pub unique_ids : UniqueIds s.table
  -- the ready chain is sorted by level, and the clock waits by due tick
  pub ready_sorted : sorted (level_of s) s.table.ready ≡ true
  pub clock_sorted : sorted (λ w. w.due) s.sleeping ≡ true
  -- a due tick is to come, and at most 65,535 ticks ahead
  pub dues : All (λ w. (s.clock < w.due) × (w.due ≤ s.clock + 65535)) s.sleeping
  pub clock : s.clock ≤ last_reading
  -- a record has at most 80 transfer bytes
  pub few_bytes : (k : ℕ) → length (record_in s.table k).bytes ≤ longest
  pub requests : (u : ℕ) → all_fit s.table (queue_of s u) ≡ true
  -- there are 256 cells, and four units, each with its queue
  pub cells : length s.cells.words ≡ 256
  pub queues : length s.queues ≡ 4
  pub units : length s.units ≡ 4

-- What the parts of a task table stand for, and what is kept of them. Nothing here names the struct that has these parts.
use Rattle.std.specs.Prelude.{◌≡◌, ℕ, ◌<◌, ◌≤◌, cond, List, map, length, Option, nat_lt}
use Rattle.chain.specs.declared.Links.{Links}
use Rattle.chain.specs.Chains.{Ends, chain, nexts, records}
use Rattle.rules.specs.Sound.{in_table}
use Rattle.rules.specs.State as rules
use Rattle.rules.specs.State.{Table}
use Rattle.tasks.specs.declared.task.Task.{Task}

-- the record of the rules that a record of the code stands for
abbrev pub as_task : Task → rules.Task
as_task t = record { id = t.id; level = t.level; mark = t.mark; word = t.word; start = t.start; bytes = t.bytes; kind = t.kind; outcome = t.outcome }

-- the table that the links, the heads of three chains and the running task stand for
unfoldable pub table_of : Links Task → Option ℕ → Option ℕ → Option ℕ → Option ℕ → Table
table_of links free ready suspended running = record {
  tasks = map as_task (records links);
  free = chain (nexts links) free;
  running = running;
  ready = chain (nexts links) ready;
  suspended = chain (nexts links) suspended;
}

-- t is one of the records and stands nowhere in the table, so it can be placed
pub record Unplaced (t : ℕ) (a : Table) : Type 0 where
  pub within : t < length a.tasks
  pub nowhere : in_table t a ≡ 0

-- each of the three chains ends
abbrev pub AllEnd : List (Option ℕ) → Option ℕ → Option ℕ → Option ℕ → Type 0
AllEnd ns free ready suspended = Ends ns free × Ends ns ready × Ends ns suspended

-- every record stands at one place of the table at most, and nothing else stands there
abbrev pub Placed : Table → Type 0
Placed a = (k : ℕ) → in_table k a ≤ cond (nat_lt k (length a.tasks)) 1 0

-- what is kept of the parts of every table
pub record Intact (links : Links Task) (free ready suspended running : Option ℕ) : Type 0 where
  pub ends : AllEnd (nexts links) free ready suspended
  pub placed : Placed (table_of links free ready suspended running)

-- The state of the rules that the parts of the tables stand for, and what holds of it at every moment. Nothing here names the
-- struct that has these parts.
use Rattle.std.specs.Prelude.{◌≡◌, ℕ, ◌≤◌, List, [], length, replicate, Option, is_some, unwrap_or}
use Rattle.tasks.specs.declared.Tasks.{Tasks}
use Rattle.clock.specs.declared.ClockWaits.{ClockWaits}
use Rattle.cells.specs.declared.Cells.{Cells}
use Rattle.queues.specs.declared.four.Queues.{Queues}
use Rattle.clock.specs.View as clock
use Rattle.cells.specs.View as cells
use Rattle.queues.specs.Four as queues
use Rattle.unit.specs.Medium.{Medium, fresh}
use Rattle.rules.specs.State.{State}
use Rattle.rules.specs.Sound.{Sound}
use Rattle.rules.specs.Laws.{Foremost}

-- the state, over some units; where there is no clock, the rules have it read 0
abbrev pub state_of : List Medium → Tasks → ClockWaits → Cells → Queues → Option ℕ → State
state_of units table waits words requests reading = record {
  table = table;
  sleeping = clock.sleeping waits;
  cells = cells.cells words;
  queues = queues.queues requests;
  units = units;
  clock = unwrap_or reading 0;
  timed = is_some reading;
}

-- four units that stand for any: what holds of a state does not speak of them
abbrev pub blanks : List Medium
blanks = replicate 4 (fresh [] 0 0)

-- what holds of every state that a run comes to: every record is at exactly one place, marks are as they may be, chains are
-- sorted, and no ready task ranks above the running one
pub record Standing (s : State) : Type 0 where
  pub sound : Sound s
  pub foremost : Foremost s s.table.running

-- what holds of a state at every moment, where the waits at the clock, at the cells and at the units have so much place: there
-- are at most 64 records, each kind of wait has place for every task, and the state stands
pub record StandsIn (s : State) (at_clock at_cells at_units : ℕ) : Type 0 where
  pub few : length s.table.tasks ≤ 64
  pub sleepers : at_clock ≡ length s.table.tasks
  pub waiters : at_cells ≡ length s.table.tasks
  pub askers : at_units ≡ length s.table.tasks
  pub state : ∥ Standing s ∥₁

-- the same of the parts
abbrev pub StandsOf : Tasks → ClockWaits → Cells → Queues → Option ℕ → Type 0
StandsOf table waits words requests reading = StandsIn (state_of blanks table waits words requests reading) (clock.room waits) (cells.room words) (queues.room_of requests)

-- The state of the monitor: its task records and chains, the waits at the clock, at cells and at units, and the units.
use Rattle.std.specs.Prelude.{ℕ, Bool, false, List, [], replicate, Some, None, Option, slice_index, slice_index_or}
use Rattle.calls.specs.declared.call.TransferKind.{TransferKind}
use Rattle.calls.specs.declared.outcome.Outcome.{Outcome}
use Rattle.chain.specs.Lists.{rank_in, rest, rising}
use Rattle.unit.specs.Medium.{Medium, fresh}

-- a task's record: the kind is that of its latest transfer, if it has made one, and the bytes are what that moves or has moved
pub record Task : Type 0 where
  pub id : ℕ
  pub level : ℕ
  pub mark : Bool
  pub word : ℕ
  pub start : ℕ
  pub bytes : List ℕ
  pub kind : Option TransferKind
  pub outcome : Option Outcome

-- a record with every field 0
abbrev pub blank : Task
blank = record { id = 0; level = 0; mark = false; word = 0; start = 0; bytes = []; kind = None; outcome = None }

-- the records, the three chains and the running task; chains hold the numbers of records
pub record Table : Type 0 where
  pub tasks : List Task
  pub free : List ℕ
  pub running : Option ℕ
  pub ready : List ℕ
  pub suspended : List ℕ

-- a wait for a due tick
pub record ClockWait : Type 0 where
  pub task : ℕ
  pub due : ℕ

-- a wait at a cell: for a message while the cell is zero, and while it is full until its message is taken
pub record CellWait : Type 0 where
  pub task : ℕ
  pub cell : ℕ

-- the word of each cell, and the waits at all cells, the longest first
pub record Cells : Type 0 where
  pub words : List ℕ
  pub waits : List CellWait

-- a wait at a unit: the bytes that it is to move at most, and those moved so far
pub record Request : Type 0 where
  pub task : ℕ
  pub size : ℕ
  pub moved : ℕ

-- everything there is: the clock waits stand by due tick, and each unit has a queue of requests, the first first
pub record State : Type 0 where
  pub table : Table
  pub sleeping : List ClockWait
  pub cells : Cells
  pub queues : List (List Request)
  pub units : List Medium
  pub clock : ℕ
  -- whether there is a clock
  pub timed : Bool

-- Reading ----------------------------------------------------------------------------------------------------------------------

-- the record t of a table
abbrev pub record_in : Table → ℕ → Task
record_in a t = slice_index_or a.tasks t blank

-- the level of the record t of a table, by which it ranks in the ready chain
abbrev pub level_in : Table → ℕ → ℕ
level_in a = rank_in (λ x. x.level) a.tasks

abbrev pub task_of : State → ℕ → Task
task_of s t = record_in s.table t

abbrev pub level_of : State → ℕ → ℕ
level_of s = level_in s.table

-- the requests at the unit u
abbrev pub queue_of : State → ℕ → List Request
queue_of s u = slice_index_or s.queues u []

-- the unit u
abbrev pub unit_of : State → ℕ → Medium
unit_of s u = slice_index_or s.units u (fresh [] 0 0)

-- the word of the cell c
abbrev pub word_of : Cells → ℕ → ℕ
word_of x c = slice_index x.words c

-- The start -------------------------------------------------------------------------------------------------------------------

-- record 0 runs with every field 0, and the others are free in rising order
abbrev pub begin_table : ℕ → Table
begin_table tasks = record { tasks = replicate tasks blank; free = rest (rising 0 tasks); running = Some 0; ready = []; suspended = [] }

-- the 256 cells are zero
abbrev pub begin_cells : Cells
begin_cells = record { words = replicate 256 0; waits = [] }

-- the start over some units: nobody waits, and the clock reads 0
abbrev pub begin : ℕ → Bool → List Medium → State
begin tasks timed units = record { table = begin_table tasks; sleeping = []; cells = begin_cells; queues = replicate 4 []; units = units; clock = 0; timed = timed }

-- One part put anew -----------------------------------------------------------------------------------------------------------
abbrev pub with_tasks : List Task → Table → Table
with_tasks x a = record { tasks = x; free = a.free; running = a.running; ready = a.ready; suspended = a.suspended }

abbrev pub with_free : List ℕ → Table → Table
with_free x a = record { tasks = a.tasks; free = x; running = a.running; ready = a.ready; suspended = a.suspended }

abbrev pub with_running : Option ℕ → Table → Table
with_running x a = record { tasks = a.tasks; free = a.free; running = x; ready = a.ready; suspended = a.suspended }

abbrev pub with_ready : List ℕ → Table → Table
with_ready x a = record { tasks = a.tasks; free = a.free; running = a.running; ready = x; suspended = a.suspended }

abbrev pub with_suspended : List ℕ → Table → Table
with_suspended x a = record { tasks = a.tasks; free = a.free; running = a.running; ready = a.ready; suspended = x }

abbrev pub with_table : Table → State → State
with_table x s = record { table = x; sleeping = s.sleeping; cells = s.cells; queues = s.queues; units = s.units; clock = s.clock; timed = s.timed }

abbrev pub with_sleeping : List ClockWait → State → State
with_sleeping x s = record { table = s.table; sleeping = x; cells = s.cells; queues = s.queues; units = s.units; clock = s.clock; timed = s.timed }

abbrev pub with_cells : Cells → State → State
with_cells x s = record { table = s.table; sleeping = s.sleeping; cells = x; queues = s.queues; units = s.units; clock = s.clock; timed = s.timed }

abbrev pub with_queues : List (List Request) → State → State
with_queues x s = record { table = s.table; sleeping = s.sleeping; cells = s.cells; queues = x; units = s.units; clock = s.clock; timed = s.timed }

abbrev pub with_units : List Medium → State → State
with_units x s = record { table = s.table; sleeping = s.sleeping; cells = s.cells; queues = s.queues; units = x; clock = s.clock; timed = s.timed }

abbrev pub with_clock : ℕ → State → State
with_clock x s = record { table = s.table; sleeping = s.sleeping; cells = s.cells; queues = s.queues; units = s.units; clock = x; timed = s.timed }

abbrev pub on_table : (Table → Table) → State → State
on_table f s = with_table (f s.table) s

-- Fields of one record put anew -----------------------------------------------------------------------------------------------
abbrev pub with_level : ℕ → Task → Task
with_level x t = record { id = t.id; level = x; mark = t.mark; word = t.word; start = t.start; bytes = t.bytes; kind = t.kind; outcome = t.outcome }

abbrev pub with_mark : Bool → Task → Task
with_mark x t = record { id = t.id; level = t.level; mark = x; word = t.word; start = t.start; bytes = t.bytes; kind = t.kind; outcome = t.outcome }

abbrev pub with_word : ℕ → Task → Task
with_word x t = record { id = t.id; level = t.level; mark = t.mark; word = x; start = t.start; bytes = t.bytes; kind = t.kind; outcome = t.outcome }

-- the record at the asking for a transfer: no outcome yet
abbrev pub with_transfer : TransferKind → List ℕ → Task → Task
with_transfer k b t = record { id = t.id; level = t.level; mark = t.mark; word = t.word; start = t.start; bytes = b; kind = Some k; outcome = None }

abbrev pub with_bytes : List ℕ → Task → Task
with_bytes b t = record { id = t.id; level = t.level; mark = t.mark; word = t.word; start = t.start; bytes = b; kind = t.kind; outcome = t.outcome }

-- the record at the end of a transfer
abbrev pub with_outcome : List ℕ → Outcome → Task → Task
with_outcome b o t = record { id = t.id; level = t.level; mark = t.mark; word = t.word; start = t.start; bytes = b; kind = t.kind; outcome = Some o }

-- Create, kill, set level and suspend, of the caller and by id.
use Rattle.std.specs.Prelude.{ℕ, ◌+◌, Bool, true, false, cond, List, [], ◌∷◌, map, is_some, Some, None, Option, ◌==◌}
use Rattle.std.specs.List.{flat_map}
use Rattle.calls.specs.declared.call.ByIdCall.{ByIdCall}
use Rattle.calls.specs.declared.call.ByIdCall.TheVariants.{Kill, Ready, Suspend, SetLevel, Status}
use Rattle.calls.specs.declared.refusal.Refusal.TheVariants.{NoFreeRecord, IdInUse, NoSuchId, AtUnit}
use Rattle.chain.specs.Lists.{has}
use Rattle.rules.specs.State.{CellWait, Cells, ClockWait, Request, State, Task, level_of, task_of, with_cells, with_level, with_mark, with_sleeping}
use Rattle.rules.specs.Tables.{change, clear, fill, lookup, stop, suspend}
use Rattle.rules.specs.Acts.{Act, Done, ◌then◌, choosing, done, grant, killing_other, levelling_other, linking, plain, readying_other, refuse, suspending_other, tell}

-- Who waits -------------------------------------------------------------------------------------------------------------------

-- the tasks of some clock waits, of some cell waits and of some requests
abbrev pub sleepers : List ClockWait → List ℕ
sleepers ws = map (λ w. w.task) ws

abbrev pub waiters : List CellWait → List ℕ
waiters ws = map (λ w. w.task) ws

abbrev pub askers : List Request → List ℕ
askers q = map (λ r. r.task) q

-- all tasks that wait at a unit
abbrev pub all_askers : List (List Request) → List ℕ
all_askers qs = flat_map askers qs

-- the waits without that of t
abbrev pub without_sleeper : ℕ → List ClockWait → List ClockWait
without_sleeper t [] = []
without_sleeper t (w ∷ ws) = cond (w.task == t) ws (w ∷ without_sleeper t ws)

abbrev pub without_waiter : ℕ → List CellWait → List CellWait
without_waiter t [] = []
without_waiter t (w ∷ ws) = cond (w.task == t) ws (w ∷ without_waiter t ws)

-- t waits at no cell; a message that it sent stays in its cell
abbrev pub leave_cells : ℕ → Cells → Cells
leave_cells t x = record { words = x.words; waits = without_waiter t x.waits }

-- t waits neither at a cell nor for a due tick
abbrev pub leave_waits : ℕ → State → State
leave_waits t s = with_cells (leave_cells t s.cells) (with_sleeping (without_sleeper t s.sleeping) s)

-- The calls -------------------------------------------------------------------------------------------------------------------

-- the level that a task gets: 0 becomes another number
abbrev pub or_else : ℕ → ℕ → ℕ
or_else other level = cond (level == 0) other level

-- a new task's record
abbrev pub new_task : ℕ → ℕ → ℕ → ℕ → Task
new_task id level start message = record { id = id; level = level; mark = false; word = message; start = start; bytes = []; kind = None; outcome = None }

-- the record k is filled; the caller t is linked, then the new task, and one is chosen
abbrev pub making : ℕ → ℕ → Task → Act
making t k x = plain (λ a. stop (fill k x a)) then linking t then linking k then choosing

-- Create: the answer is the number of the new record; level 0 becomes the caller's level
abbrev pub creating : ℕ → ℕ → ℕ → ℕ → ℕ → Option ℕ → State → Done
creating t id level start message None s = refuse NoFreeRecord s
creating t id level start message (Some k) s = cond (is_some (lookup id s.table)) (refuse IdInUse s) (grant k (making t k (new_task id (or_else (level_of s t) level) start message)) s)

-- Kill: the caller's record is cleared and freed
abbrev pub killing : ℕ → State → Done
killing t s = done 0 (plain (λ a. clear t (stop a))) s

-- Suspend: the caller gets a mark and goes to the suspended chain
abbrev pub suspending : ℕ → State → Done
suspending t s = done 0 (plain (λ a. suspend t (change t (with_mark true) (stop a)))) s

-- Set level: level 0 becomes 1
abbrev pub levelling : ℕ → ℕ → State → Done
levelling t level s = done 0 (plain (change t (with_level (or_else 1 level)))) s

-- a number if something holds, else 0
abbrev pub bit : Bool → ℕ → ℕ
bit b n = cond b n 0

-- Status: 1 at a unit, 2 with a mark, 4 at a cell, 8 for a due tick, summed up
abbrev pub status_of : State → ℕ → ℕ
status_of s k = bit (has k (all_askers s.queues)) 1 + bit (task_of s k).mark 2 + bit (has k (waiters s.cells.waits)) 4 + bit (has k (sleepers s.sleeping)) 8

-- By id on the caller: its own call; ready makes only the turn
abbrev pub on_caller : ℕ → ByIdCall → State → Done
on_caller t Kill s = killing t s
on_caller t Ready s = done 0 (plain (λ a. a)) s
on_caller t Suspend s = suspending t s
on_caller t (SetLevel level) s = levelling t level s
on_caller t Status s = tell (status_of s t) s

-- By id on another task
abbrev pub on_other : ℕ → ByIdCall → State → Done
on_other k Kill s = cond (has k (all_askers s.queues)) (refuse AtUnit s) (done 0 (killing_other k) (leave_waits k s))
on_other k Ready s = done 0 (readying_other k) s
on_other k Suspend s = done 0 (suspending_other k) s
on_other k (SetLevel level) s = done 0 (levelling_other k (or_else 1 level)) s
on_other k Status s = tell (status_of s k) s

-- By id: the task is the live one that has the id
abbrev pub by_id : ℕ → ByIdCall → Option ℕ → State → Done
by_id t call None s = refuse NoSuchId s
by_id t call (Some k) s = cond (k == t) (on_caller t call s) (on_other k call s)

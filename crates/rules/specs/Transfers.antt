-- Transfers and services.
use Rattle.std.specs.Prelude.{ℕ, ◌+◌, Bool, true, false, cond, not, ◌&&◌, ◌||◌, List, [], ◌∷◌, ◌++◌, length, Some, None, Ok, Err, Option, Result, ◌==◌, nat_lt, slice_index, slice_set}
use Rattle.calls.specs.declared.call.Transfer.{Transfer}
use Rattle.calls.specs.declared.call.Transfer.TheVariants.{Write, WriteLine, Read, ReadLine}
use Rattle.calls.specs.declared.call.TransferKind.{TransferKind}
use Rattle.calls.specs.declared.call.TransferKind.TheVariants as kind
use Rattle.calls.specs.declared.outcome.Outcome.{Outcome}
use Rattle.calls.specs.Outcomes.{complete_at, failed_at}
use Rattle.calls.specs.declared.refusal.Refusal.TheVariants.{BadLength, NoLineEnd, NoRequest}
use Rattle.chain.specs.Lists.{join}
use Rattle.unit.specs.declared.faults.UnitFault.{UnitFault}
use Rattle.unit.specs.Faults.{fault_after}
use Rattle.unit.specs.Medium.{Medium, after_give, after_take, told_give, told_take}
use Rattle.rules.specs.State.{Request, State, queue_of, task_of, unit_of, with_bytes, with_outcome, with_queues, with_transfer, with_units}
use Rattle.rules.specs.Tables.{change, stop}
use Rattle.rules.specs.Acts.{Done, ◌then◌, done, grant, plain, refuse, releasing}

-- Asking ----------------------------------------------------------------------------------------------------------------------

-- the most bytes that a transfer moves
abbrev pub longest : ℕ
longest = 80

abbrev pub bad_length : ℕ → Bool
bad_length n = n == 0 || nat_lt longest n

-- the bytes that end a line
abbrev pub line_end : ℕ → Bool
line_end b = b == 0 || (b == 12 || b == 13)

abbrev pub has_line_end : List ℕ → Bool
has_line_end [] = false
has_line_end (b ∷ bs) = line_end b || has_line_end bs

-- a text up to its first line end, included
abbrev pub line : List ℕ → List ℕ
line [] = []
line (b ∷ bs) = cond (line_end b) (b ∷ []) (b ∷ line bs)

-- requests rank alike: a new one goes behind all
abbrev pub enqueue : Request → List Request → List Request
enqueue r q = join (λ _. 0) r q

-- the caller's record takes the kind and the bytes, its request joins the queue of the unit u, and it waits
abbrev pub asking : ℕ → ℕ → TransferKind → List ℕ → ℕ → State → Done
asking t u k bytes size s = done 0 (plain (λ a. change t (with_transfer k bytes) (stop a))) (with_queues (slice_set s.queues u (enqueue (record { task = t; size = size; moved = 0 }) (queue_of s u))) s)

-- a write by count moves its text, a write by line its text up to the first line end; a read begins with no bytes
abbrev pub transferring : ℕ → ℕ → Transfer (List ℕ) → State → Done
transferring t u (Write text) s = cond (bad_length (length text)) (refuse BadLength s) (asking t u kind.Write text (length text) s)
transferring t u (WriteLine text) s = cond (bad_length (length text)) (refuse BadLength s) (cond (not (has_line_end text)) (refuse NoLineEnd s) (asking t u kind.WriteLine (line text) (length (line text)) s))
transferring t u (Read size) s = cond (bad_length size) (refuse BadLength s) (asking t u kind.Read [] size s)
transferring t u ReadLine s = asking t u kind.ReadLine [] longest s

-- A service -------------------------------------------------------------------------------------------------------------------

-- whether a transfer moves bytes to the unit, and whether a line end ends it
abbrev pub writes : Option TransferKind → Bool
writes None = false
writes (Some kind.Write) = true
writes (Some kind.WriteLine) = true
writes (Some kind.Read) = false
writes (Some kind.ReadLine) = false

abbrev pub by_line : Option TransferKind → Bool
by_line None = false
by_line (Some kind.Write) = false
by_line (Some kind.WriteLine) = false
by_line (Some kind.Read) = false
by_line (Some kind.ReadLine) = true

-- what one service makes of the unit, of the transfer bytes and of the number moved, and the outcome if it is the last
pub record Move : Type 0 where
  pub unit : Medium
  pub bytes : List ℕ
  pub moved : ℕ
  pub ends : Option Outcome

-- the outcome of a transfer that is complete with this byte
abbrev pub complete_if : Bool → Medium → ℕ → Option Outcome
complete_if b m moved = cond b (Some (complete_at m.code moved)) None

-- the outcome of a transfer that the unit's fault ends
abbrev pub failed : Medium → ℕ → UnitFault → Option Outcome
failed m moved fault = Some (failed_at m.code (fault_after moved fault))

-- the unit is handed the next byte, and told so
abbrev pub move_out : Request → List ℕ → Medium → Result (Unit {0}) UnitFault → Move
move_out r bytes m (Ok x) = record { unit = after_take (slice_index bytes r.moved) m; bytes = bytes; moved = r.moved + 1; ends = complete_if (r.moved + 1 == r.size) m (r.moved + 1) }
move_out r bytes m (Err fault) = record { unit = after_take (slice_index bytes r.moved) m; bytes = bytes; moved = r.moved; ends = failed m r.moved fault }

-- the unit is asked for a byte, which joins the transfer bytes
abbrev pub move_in : Bool → Request → List ℕ → Medium → Result ℕ UnitFault → Move
move_in lines r bytes m (Ok b) = record { unit = after_give m; bytes = bytes ++ b ∷ []; moved = r.moved + 1; ends = complete_if (r.moved + 1 == r.size || (lines && line_end b)) m (r.moved + 1) }
move_in lines r bytes m (Err fault) = record { unit = after_give m; bytes = bytes; moved = r.moved; ends = failed m r.moved fault }

abbrev pub move : Option TransferKind → Request → List ℕ → Medium → Move
move k r bytes m = cond (writes k) (move_out r bytes m (told_take m)) (move_in (by_line k) r bytes m (told_give m))

-- the move of the request r, the first at the unit u
abbrev pub move_of : ℕ → Request → State → Move
move_of u r s = move (task_of s r.task).kind r (task_of s r.task).bytes (unit_of s u)

-- the unit u after the move, and its queue
abbrev pub at_unit : ℕ → Medium → List Request → State → State
at_unit u m q s = with_units (slice_set s.units u m) (with_queues (slice_set s.queues u q) s)

-- the transfer goes on: no turn
abbrev pub going_on : ℕ → Request → List Request → Move → State → Done
going_on u r rs v s = grant 0 (plain (change r.task (with_bytes v.bytes))) (at_unit u v.unit ((record { task = r.task; size = r.size; moved = v.moved }) ∷ rs) s)

-- the transfer ends: its task is released, and a turn follows
abbrev pub ending : ℕ → Request → List Request → Move → Outcome → State → Done
ending u r rs v o s = done 1 (plain (change r.task (with_outcome v.bytes o)) then releasing r.task) (at_unit u v.unit rs s)

abbrev pub moving : ℕ → Request → List Request → Move → Option Outcome → State → Done
moving u r rs v None s = going_on u r rs v s
moving u r rs v (Some o) s = ending u r rs v o s

-- the first request has one byte moved
abbrev pub serving : ℕ → List Request → State → Done
serving u [] s = refuse NoRequest s
serving u (r ∷ rs) s = moving u r rs (move_of u r s) (move_of u r s).ends s

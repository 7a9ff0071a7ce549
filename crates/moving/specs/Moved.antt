-- One byte of a transfer moved, in the words of the rules.
use Rattle.std.specs.Prelude.{ℕ, cond, List, [], ◌∷◌, ◌++◌, Some, None, Ok, Err, Option, Result}
use Rattle.calls.specs.declared.call.TransferKind.{TransferKind}
use Rattle.calls.specs.declared.outcome.Outcome.{Outcome}
use Rattle.unit.specs.declared.faults.TransferFault.{TransferFault}
use Rattle.unit.specs.declared.faults.UnitFault.{UnitFault}
use Rattle.unit.specs.Faults.{fault_after}
use Rattle.unit.specs.Medium.{Medium, after_give, after_take, told_give, told_take}
use Rattle.rules.specs.State.{Request, Task, with_bytes, with_outcome}
use Rattle.rules.specs.Transfers.{Move, move, writes}

-- a unit that was handed the byte b of a write, or asked for a byte of a read
abbrev pub after_move : Option TransferKind → ℕ → Medium → Medium
after_move k b m = cond (writes k) (after_take b m) (after_give m)

-- the byte that was taken, and the byte that was given, or the unit's fault as a transfer keeps it
abbrev pub took_it : ℕ → Result (Unit {0}) UnitFault → Result ℕ TransferFault
took_it b (Ok x) = Ok b
took_it b (Err fault) = Err (fault_after 0 fault)

abbrev pub gave_it : Result ℕ UnitFault → Result ℕ TransferFault
gave_it (Ok b) = Ok b
gave_it (Err fault) = Err (fault_after 0 fault)

-- the byte that was moved, or the fault
abbrev pub heard : Option TransferKind → ℕ → Medium → Result ℕ TransferFault
heard k b m = cond (writes k) (took_it b (told_take m)) (gave_it (told_give m))

-- the transfer bytes after the byte b was moved
abbrev pub taken_in : Option TransferKind → ℕ → List ℕ → List ℕ
taken_in k b bytes = cond (writes k) bytes (bytes ++ b ∷ [])

-- the move of a task's request at a unit
abbrev pub move_for : Task → Request → Medium → Move
move_for t r m = move t.kind r t.bytes m

-- the record after a move, with the outcome if the transfer has ended
abbrev pub ending : List ℕ → Option Outcome → Task → Task
ending bytes None t = with_bytes bytes t
ending bytes (Some o) t = with_outcome bytes o t

abbrev pub changed : Move → Task → Task
changed v t = ending v.bytes v.ends t

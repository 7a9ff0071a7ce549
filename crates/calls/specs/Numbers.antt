-- The numbers by which refusals, stops and outcomes are told.
use Rattle.std.specs.Prelude.{◌≡◌, ℕ, ◌+◌, ◌*◌, Some, None, Ok, Err, Option, Result, MatchResult, ◌≢◌}
use Rattle.calls.specs.declared.refusal.Refusal.{Refusal}
use Rattle.calls.specs.declared.refusal.Refusal.TheVariants.{NoTask, NoFreeRecord, IdInUse, NoSuchId, AtUnit, CellFull, NoMessage, NoTicks, NoSuchUnit, BadLength, NoLineEnd, NoRequest, ClockAtEnd, Unlawful, NoClock, OutOfRange, NoRoom}
use Rattle.calls.specs.declared.refusal.UnknownRefusal.{UnknownRefusal}
use Rattle.calls.specs.declared.stop.Stop.{Stop}
use Rattle.calls.specs.declared.stop.Stop.TheVariants as stop
use Rattle.calls.specs.declared.outcome.Outcome.{Outcome}
use Rattle.unit.specs.Faults.{cause_of}
use Rattle.unit.specs.declared.faults.TransferFault.{TransferFault}

-- each refusal's number
abbrev pub refusal_number : Refusal → ℕ
refusal_number NoTask = 1
refusal_number NoFreeRecord = 2
refusal_number IdInUse = 3
refusal_number NoSuchId = 4
refusal_number AtUnit = 5
refusal_number CellFull = 6
refusal_number NoMessage = 7
refusal_number NoTicks = 8
refusal_number NoSuchUnit = 9
refusal_number BadLength = 10
refusal_number NoLineEnd = 11
refusal_number NoRequest = 12
refusal_number ClockAtEnd = 13
refusal_number Unlawful = 14
refusal_number NoClock = 15
refusal_number OutOfRange = 16
refusal_number NoRoom = 17

-- the refusal that has the number; or the number, which no refusal has
abbrev pub ByNumber : ℕ → Result Refusal UnknownRefusal → Type 0
ByNumber number r = MatchResult r (λ x. refusal_number x ≡ number) (λ e. (e.0 ≡ number) × ((x : Refusal) → refusal_number x ≢ number))

-- the number of a stop: that of the refusal that it tells of, or 0 at the end
abbrev pub stop_number : Stop → ℕ
stop_number stop.End = 0
stop_number (stop.Unlawful place) = refusal_number Unlawful
stop_number stop.NoRoom = refusal_number NoRoom

-- a cause in bits 15 to 13, a device code in bits 12 to 7, bytes moved in bits 6 to 0
abbrev pub packing : ℕ → ℕ → ℕ → ℕ
packing cause device moved = cause * 8192 + device * 128 + moved

-- the cause of an outcome that is complete
abbrev pub complete_cause : ℕ
complete_cause = 1

-- the number of an end at a device: of the bytes moved, or of the fault
abbrev pub end_number : ℕ → Result ℕ TransferFault → ℕ
end_number device (Ok moved) = packing complete_cause device moved
end_number device (Err fault) = packing (cause_of fault.fault) device fault.moved

-- an outcome's number
abbrev pub outcome_number : Outcome → ℕ
outcome_number o = end_number o.device o.end

-- the number that is told of a task's outcome: 0 while there is none
abbrev pub number_told : Option Outcome → ℕ
number_told None = 0
number_told (Some o) = outcome_number o

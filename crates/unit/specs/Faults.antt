-- The numbers and the parts of the faults.
use Rattle.std.specs.Prelude.{ℕ}
use Rattle.unit.specs.declared.faults.TransferFault.{TransferFault}
use Rattle.unit.specs.declared.faults.UnitFault.{UnitFault}
use Rattle.unit.specs.declared.faults.UnitFault.TheVariants.{End, Full}

-- the cause number of each fault of a unit
abbrev pub cause_of : UnitFault → ℕ
cause_of Full = 2
cause_of End = 3

-- a unit's fault, told after so many bytes of a transfer were moved
abbrev pub fault_after : ℕ → UnitFault → TransferFault
fault_after moved fault = record { fault = fault; moved = moved }

-- The two ways in which a transfer ends.
use Rattle.std.specs.Prelude.{ℕ, Ok, Err}
use Rattle.calls.specs.declared.outcome.Outcome.{Outcome}
use Rattle.unit.specs.declared.faults.TransferFault.{TransferFault}

-- all that was asked for is moved
abbrev pub complete_at : ℕ → ℕ → Outcome
complete_at device moved = record { device = device; end = Ok moved }

-- the unit had a fault
abbrev pub failed_at : ℕ → TransferFault → Outcome
failed_at device fault = record { device = device; end = Err fault }

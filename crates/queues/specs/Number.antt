-- The numbers of the units.
use Rattle.std.specs.Prelude.{ℕ, zero, suc, Ok, Err, Result}
use Rattle.calls.specs.declared.refusal.Refusal.{Refusal}
use Rattle.calls.specs.declared.refusal.Refusal.TheVariants.{NoSuchUnit}
use Rattle.queues.specs.declared.number.UnitNumber.{UnitNumber}
use Rattle.queues.specs.declared.number.UnitNumber.TheVariants.{Unit0, Unit1, Unit2, Unit3}

abbrev pub number_of : UnitNumber → ℕ
number_of Unit0 = 0
number_of Unit1 = 1
number_of Unit2 = 2
number_of Unit3 = 3

-- the unit that a number names, or the refusal
abbrev pub told : ℕ → Result UnitNumber Refusal
told zero = Ok Unit0
told (suc zero) = Ok Unit1
told (suc (suc zero)) = Ok Unit2
told (suc (suc (suc zero))) = Ok Unit3
told (suc (suc (suc (suc n)))) = Err NoSuchUnit

-- The meaning of a unit: what it has taken, what it has given, what is to come, and its room;
-- and what take and give make of that.
use Rattle.std.specs.Prelude.{ℕ, zero, suc, ◌-◌, List, [], ◌∷◌, ◌++◌, take, drop, Ok, Err, Result}
use Rattle.unit.specs.declared.faults.UnitFault.{UnitFault}
use Rattle.unit.specs.declared.faults.UnitFault.TheVariants.{Full, End}

-- a unit as the rules see it; its device code never changes
pub record Medium : Type 0 where
  pub taken : List ℕ
  pub given : List ℕ
  pub coming : List ℕ
  pub room : ℕ
  pub code : ℕ

-- a unit as it is made: nothing taken or given
abbrev pub fresh : List ℕ → ℕ → ℕ → Medium
fresh coming room code = record { taken = []; given = []; coming = coming; room = room; code = code }

-- the room of a unit that keeps what it takes
abbrev pub full_room : ℕ
full_room = 4096

-- a unit that was handed the byte b: if there is room, the byte goes to the end of taken
abbrev pub after_take : ℕ → Medium → Medium
after_take b m = record { taken = m.taken ++ take m.room (b ∷ []); given = m.given; coming = m.coming; room = m.room - 1; code = m.code }

-- what a unit with that room tells when it is handed a byte
abbrev pub told_at : ℕ → Result (Unit {0}) UnitFault
told_at zero = Err Full
told_at (suc room) = Ok tt

abbrev pub told_take : Medium → Result (Unit {0}) UnitFault
told_take m = told_at m.room

-- a unit that was asked for a byte: the first byte to come, if there is one, goes to the end of given
abbrev pub after_give : Medium → Medium
after_give m = record { taken = m.taken; given = m.given ++ take 1 m.coming; coming = drop 1 m.coming; room = m.room; code = m.code }

-- what a unit with those bytes to come tells when it is asked for one
abbrev pub told_of : List ℕ → Result ℕ UnitFault
told_of [] = Err End
told_of (b ∷ bs) = Ok b

abbrev pub told_give : Medium → Result ℕ UnitFault
told_give m = told_of m.coming

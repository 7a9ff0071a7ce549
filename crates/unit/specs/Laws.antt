-- Take and give in the words of the subject, member by member.
use Rattle.std.specs.Prelude.{◌≡◌, ℕ, ◌+◌, ◌<◌, List, [], ◌∷◌, ◌++◌, length, Ok, Err}
use Rattle.unit.specs.declared.faults.UnitFault.TheVariants.{Full, End}
use Rattle.unit.specs.Medium.{Medium, after_take, after_give, told_take, told_give}

-- with room, the byte goes to the end of taken, room falls by one, and nothing else changes
abbrev pub TakesOne : Type 0
TakesOne =
    (b : ℕ) (m : Medium) → 0 < m.room →
    (told_take m ≡ Ok tt)
    × ((after_take b m).taken ≡ m.taken ++ b ∷ [])
    × ((after_take b m).room + 1 ≡ m.room)
    × ((after_take b m).given ≡ m.given)
    × ((after_take b m).coming ≡ m.coming)
    × ((after_take b m).code ≡ m.code)

-- with room 0 it tells full, and nothing changes
abbrev pub FullTakesNone : Type 0
FullTakesNone = (b : ℕ) (m : Medium) → m.room ≡ 0 → (told_take m ≡ Err Full) × (after_take b m ≡ m)

-- the first byte to come is told and moves to the end of given, and nothing else changes
abbrev pub GivesFirst : Type 0
GivesFirst =
    (b : ℕ) (bs : List ℕ) (m : Medium) → m.coming ≡ b ∷ bs →
    (told_give m ≡ Ok b)
    × ((after_give m).given ≡ m.given ++ b ∷ [])
    × ((after_give m).coming ≡ bs)
    × ((after_give m).taken ≡ m.taken)
    × ((after_give m).room ≡ m.room)
    × ((after_give m).code ≡ m.code)

-- with nothing to come it tells end, and nothing changes
abbrev pub EndGivesNone : Type 0
EndGivesNone = (m : Medium) → m.coming ≡ [] → (told_give m ≡ Err End) × (after_give m ≡ m)

-- the bytes taken and the room are together as many as before
abbrev pub TakeUsesRoom : Type 0
TakeUsesRoom = (b : ℕ) (m : Medium) → length (after_take b m).taken + (after_take b m).room ≡ length m.taken + m.room

-- what was given and what is to come, joined, stay as they were
abbrev pub GiveKeepsOrder : Type 0
GiveKeepsOrder = (m : Medium) → (after_give m).given ++ (after_give m).coming ≡ m.given ++ m.coming

-- What copying from one unit to another makes of both.
use Rattle.std.specs.Prelude.{◌≡◌, ℕ, ◌+◌, ◌-◌, List, [], ◌∷◌, ◌++◌, length, take, drop, Some, None, Option}
use Rattle.std.specs.Option.{option_to_list}
use Rattle.unit.specs.Medium.{Medium}

-- a unit that was handed the bytes bs, one after another: those that find room go to the end of taken
abbrev pub after_takes : List ℕ → Medium → Medium
after_takes bs m = record { taken = m.taken ++ take m.room bs; given = m.given; coming = m.coming; room = m.room - length bs; code = m.code }

-- a unit that was asked for n bytes: the first n to come go to the end of given
abbrev pub after_gives : ℕ → Medium → Medium
after_gives n m = record { taken = m.taken; given = m.given ++ take n m.coming; coming = drop n m.coming; room = m.room; code = m.code }

-- the first of some bytes, if there is one
abbrev pub first_byte : List ℕ → Option ℕ
first_byte [] = None
first_byte (b ∷ bs) = Some b

-- both units after a copy, and the byte that was given and found no room
pub record Copied : Type 0 where
  pub source : Medium
  pub target : Medium
  pub left_over : Option ℕ

-- the target is handed what is to come until it tells full, and the source has then given one byte more than there was room for
abbrev pub copied : Medium → Medium → Copied
copied from to = record { source = after_gives (to.room + 1) from; target = after_takes from.coming to; left_over = first_byte (drop to.room from.coming) }

-- no byte is lost in a copy: the source gave what the target took, and behind it the byte left over
abbrev pub NoneLost : Type 0
NoneLost =
    (from to : Medium) →
    ((copied from to).source.given ≡ from.given ++ (take to.room from.coming ++ option_to_list (copied from to).left_over))
    × ((copied from to).target.taken ≡ to.taken ++ take to.room from.coming)

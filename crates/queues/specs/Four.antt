-- What the queues of the four units mean together.
use Rattle.std.specs.Prelude.{ℕ, List, [], map, slice_index, slice_index_or}
use Rattle.rules.specs.State.{Request}
use Rattle.queues.specs.declared.number.UnitNumber.{UnitNumber}
use Rattle.queues.specs.declared.four.Queues.{Queues}
use Rattle.queues.specs.Number.{number_of}
use Rattle.queues.specs.Even.{rooms}
use Rattle.queues.specs.View as one

-- the requests at each unit
abbrev pub queues : Queues → List (List Request)
queues x = map one.requests x.at

-- the requests at the unit u
abbrev pub queue_at : UnitNumber → Queues → List Request
queue_at u x = slice_index_or (queues x) (number_of u) []

-- how many tasks there may be
abbrev pub room_of : Queues → ℕ
room_of x = slice_index (rooms x.at) 0

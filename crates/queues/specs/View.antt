-- What a unit's queue means, in the words of the rules.
use Rattle.std.specs.Prelude.{ℕ, ◌+◌, List, [], ◌∷◌, map}
use Rattle.line.specs.declared.Waiting.{Waiting}
use Rattle.line.specs.View as line
use Rattle.rules.specs.State.{Request}
use Rattle.queues.specs.declared.UnitRequest.{UnitRequest}
use Rattle.queues.specs.declared.Queue.{Queue}

abbrev pub as_request : Waiting UnitRequest → Request
as_request w = record { task = w.task; size = w.wait.size; moved = w.wait.moved }

unfoldable pub as_requests : List (Waiting UnitRequest) → List Request
as_requests ws = map as_request ws

-- the tasks on the line with their waits
abbrev pub lined : Queue → List (Waiting UnitRequest)
lined x = line.list (record { size = 0; moved = 0 }) x.line

-- the requests, the first first
abbrev pub requests : Queue → List Request
requests x = as_requests (lined x)

-- how many tasks there may be
abbrev pub room : Queue → ℕ
room x = line.room x.line

-- the queue with one more byte of the first request moved
abbrev pub advanced : List Request → List Request
advanced [] = []
advanced (r ∷ rs) = (record { task = r.task; size = r.size; moved = r.moved + 1 }) ∷ rs

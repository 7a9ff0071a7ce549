-- Queues that have place for the same tasks.
use Rattle.std.specs.Prelude.{◌≡◌, ℕ, ◌<◌, List, map, length, slice_index}
use Rattle.queues.specs.View.{room}
use Rattle.queues.specs.declared.Queue.{Queue}

-- how many tasks each may have
abbrev pub rooms : List Queue → List ℕ
rooms at = map room at

-- there are four, and each has place for as many tasks as the first
pub record Even (at : List Queue) : Type 0 where
  pub four : length at ≡ 4
  pub even : (k : ℕ) → k < 4 → slice_index (rooms at) k ≡ slice_index (rooms at) 0

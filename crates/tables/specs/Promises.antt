-- What the calls promise of the tables.
use Rattle.std.specs.Prelude.{◌≡◌, ℕ, List, length, Result, slice_set}
use Rattle.calls.specs.declared.call.Call.TheVariants.{Service}
use Rattle.calls.specs.declared.refusal.Refusal.{Refusal}
use Rattle.clock.specs.View as clock
use Rattle.cells.specs.View as cells
use Rattle.queues.specs.Four as queues
use Rattle.unit.specs.Medium.{Medium}
use Rattle.rules.specs.Rules.{Step, apply}
use Rattle.tables.specs.View as view
use Rattle.tables.specs.declared.Tables.{Tables}

-- each kind of wait has place for n tasks
abbrev pub RoomFor : ℕ → Tables → Type 0
RoomFor n x = (clock.room x.waits ≡ n) × (cells.room x.cells ≡ n) × (queues.room_of x.queues ≡ n)

-- each kind of wait has the place that it had
abbrev pub SameRoom : Tables → Tables → Type 0
SameRoom x y = (clock.room y.waits ≡ clock.room x.waits) × (cells.room y.cells ≡ cells.room x.cells) × (queues.room_of y.queues ≡ queues.room_of x.queues)

-- a step is made as the rules have it, whatever the units are: the state after it, and the answer
pub record Does (step : Step) (before after : Tables) (told : Result ℕ Refusal) : Type 0 where
  pub state : (us : List Medium) → view.state us after ≡ (apply step (view.state us before)).state
  pub answer : (us : List Medium) → told ≡ (apply step (view.state us before)).answer
  pub room : SameRoom before after

-- the unit u, which meant m and now means m', is served as the rules have it, whatever the other units are
pub record Serves (u : ℕ) (m m' : Medium) (before after : Tables) (told : Result ℕ Refusal) : Type 0 where
  pub state : (us : List Medium) → length us ≡ 4 → view.state (slice_set us u m') after ≡ (apply (Service u) (view.state (slice_set us u m) before)).state
  pub answer : (us : List Medium) → length us ≡ 4 → told ≡ (apply (Service u) (view.state (slice_set us u m) before)).answer
  pub room : SameRoom before after

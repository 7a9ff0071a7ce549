-- The state of the rules that the tables stand for.
use Rattle.std.specs.Prelude.{List}
use Rattle.unit.specs.Medium.{Medium}
use Rattle.rules.specs.State.{State}
use Rattle.tables.specs.Parts.{state_of}
use Rattle.tables.specs.declared.Tables.{Tables}

-- the state, over some units
abbrev pub state : List Medium → Tables → State
state units x = state_of units x.tasks x.waits x.cells x.queues x.clock

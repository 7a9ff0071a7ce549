-- What the clock waits mean.
use Rattle.std.specs.Prelude.{ℕ, List}
use Rattle.line.specs.View as line
use Rattle.rules.specs.State as rules
use Rattle.clock.specs.declared.ClockWaits.{ClockWaits}
use Rattle.clock.specs.Waits.{waits_of}

-- the waits, by due tick
abbrev pub sleeping : ClockWaits → List rules.ClockWait
sleeping x = waits_of x.line

-- how many tasks there may be
abbrev pub room : ClockWaits → ℕ
room x = line.room x.line

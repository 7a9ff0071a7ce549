-- A line of clock waits, in the words of the rules.
use Rattle.std.specs.Prelude.{List, map}
use Rattle.line.specs.declared.Waiting.{Waiting}
use Rattle.line.specs.declared.Line.{Line}
use Rattle.line.specs.View.{list}
use Rattle.rules.specs.State as rules
use Rattle.clock.specs.declared.ClockWait.{ClockWait}

abbrev pub as_wait : Waiting ClockWait → rules.ClockWait
as_wait w = record { task = w.task; due = w.wait.due }

unfoldable pub as_waits : List (Waiting ClockWait) → List rules.ClockWait
as_waits ws = map as_wait ws

abbrev pub waits_of : Line ClockWait → List rules.ClockWait
waits_of x = as_waits (list (record { due = 0 }) x)

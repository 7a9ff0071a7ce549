-- What the cells mean, in the words of the rules.
use Rattle.std.specs.Prelude.{ℕ, List, map}
use Rattle.line.specs.declared.Waiting.{Waiting}
use Rattle.line.specs.View as line
use Rattle.rules.specs.State as rules
use Rattle.cells.specs.declared.CellWait.{CellWait}
use Rattle.cells.specs.declared.Cells.{Cells}

abbrev pub as_wait : Waiting CellWait → rules.CellWait
as_wait w = record { task = w.task; cell = w.wait.cell }

unfoldable pub as_waits : List (Waiting CellWait) → List rules.CellWait
as_waits ws = map as_wait ws

-- the tasks on the line with their waits
abbrev pub lined : Cells → List (Waiting CellWait)
lined x = line.list (record { cell = 0 }) x.line

-- the words, and the waits at all cells
abbrev pub cells : Cells → rules.Cells
cells x = record { words = x.words; waits = as_waits (lined x) }

-- how many tasks there may be
abbrev pub room : Cells → ℕ
room x = line.room x.line

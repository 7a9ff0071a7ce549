-- A new line has no waits.
use Rattle.std.proofs.Common.{List, replicate, ap}
use Rattle.line.specs.View.{list}
use Rattle.rules.specs.State as rules
use Rattle.cells.proofs.Waits.{waits-none}
use Rattle.cells.proofs.Cells.of.Goals as goal

pub returns-clause-cells : goal.returns-clause-cells
returns-clause-cells c =
    let ws = list (record { cell = 0 }) c.in_ok-line.line in
    ap (λ (vs : List rules.CellWait). record { words = replicate 256 0; waits = vs }) (waits-none ws ws (c.in_ok-line.ensures.list (record { cell = 0 })))

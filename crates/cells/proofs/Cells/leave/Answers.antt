-- A wait is taken out wherever it stands.
use Rattle.std.proofs.Common.{List, ap}
use Rattle.line.specs.View.{list}
use Rattle.rules.specs.State as rules
use Rattle.cells.specs.View.{lined}
use Rattle.cells.proofs.Waits.{waits-left}
use Rattle.cells.proofs.Cells.leave.Goals as goal

pub returns-clause-cells : goal.returns-clause-cells
returns-clause-cells c =
    let x = c.args.self.now in
    ap (λ (ws : List rules.CellWait). record { words = x.words; waits = ws }) (waits-left (lined x) (list (record { cell = 0 }) c.leave.new.self) c.args.t (c.leave.ensures.list (record { cell = 0 })))

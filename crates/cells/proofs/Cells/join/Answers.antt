-- All waits rank alike: a new one goes behind all.
use Rattle.std.proofs.Common.{List, sym, ap, ◌∙◌}
use Rattle.chain.specs.Lists.{has}
use Rattle.line.specs.Waits.{waiting}
use Rattle.line.specs.View.{list}
use Rattle.rules.specs.State as rules
use Rattle.cells.specs.View.{lined}
use Rattle.cells.proofs.Waits.{waiters_are, waits-joined}
use Rattle.cells.proofs.Cells.join.Goals as goal

pub join-requires-clause-fresh : goal.join-requires-clause-fresh
join-requires-clause-fresh c = sym (ap (has c.args.t) (waiters_are c.args.self.now)) ∙ c.requires.fresh

pub returns-clause-cells : goal.returns-clause-cells
returns-clause-cells c =
    let x = c.args.self.now in
    ap (λ (ws : List rules.CellWait). record { words = x.words; waits = ws })
    (waits-joined (lined x) (list (record { cell = 0 }) c.join.new.self) (waiting c.args.t (record { cell = c.args.cell })) (c.join.ensures.list (record { cell = 0 })))

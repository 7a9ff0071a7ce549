-- The first on the line with the cell's number is the one that has waited there longest.
use Rattle.std.proofs.Common.{List, ap, ◌∙◌}
use Rattle.chain.specs.Lists.{first}
use Rattle.line.specs.View.{list}
use Rattle.rules.specs.State as rules
use Rattle.cells.specs.View.{as_waits, lined}
use Rattle.cells.proofs.Waits.{ended, tasks-at, waits-taken}
use Rattle.cells.proofs.Cells.take_first_at.Goals as goal

pub returns : goal.returns
returns c =
    let x = c.args.self.now in
    let u = c.take_first_with in
    let ws = lined x in
    let vs = list (record { cell = 0 }) u.new.self in
    let f = u.ensures.first (record { cell = 0 }) ∙ ap first (tasks-at c.args.cell ws) in
    let out = waits-taken ws vs c.args.cell (u.ensures.list (record { cell = 0 })) in
    record {
      first = f;
      cells = ap (λ (l : List rules.CellWait). record { words = x.words; waits = l }) out;
      laws = ended c.args.cell u.result (as_waits ws) (as_waits vs) f out;
      room = u.ensures.room;
    }

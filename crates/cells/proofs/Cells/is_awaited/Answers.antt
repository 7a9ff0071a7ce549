-- A task waits at the cell if one on the line has its number.
use Rattle.std.proofs.Common.{ap, ◌∙◌}
use Rattle.chain.specs.Lists.{first}
use Rattle.rules.specs.Mail.{tasks_at}
use Rattle.cells.specs.View.{as_waits, lined}
use Rattle.cells.proofs.Waits.{awaited, tasks-at}
use Rattle.cells.proofs.Cells.is_awaited.Goals as goal

pub returns : goal.returns
returns c =
    let ws = lined c.args.self.now in
    c.is_some.ensures ∙ awaited (tasks_at c.args.cell (as_waits ws)) c.first_with.result (c.first_with.ensures (record { cell = 0 }) ∙ ap first (tasks-at c.args.cell ws))

-- The tasks on the line are those that wait.
use Rattle.std.proofs.Common.{sym, ap, ◌∙◌}
use Rattle.chain.specs.Lists.{has}
use Rattle.cells.proofs.Waits.{waiters_are}
use Rattle.cells.proofs.Cells.is_waiting.Goals as goal

pub returns : goal.returns
returns c = c.is_on.ensures ∙ sym (ap (has c.args.t) (waiters_are c.args.self.now))

-- The record put back is the former one with another mark.
use Rattle.std.proofs.Common.{ap, ◌∙◌}
use Rattle.rules.specs.State.{with_mark}
use Rattle.tasks.proofs.Tables.{change_as}
use Rattle.tasks.proofs.Tasks.set_mark.Goals as goal

pub returns : goal.returns
returns c =
    let a = c.args.self.now in
    c.replace.ensures ∙ change_as c.args.t (with_mark c.args.mark) _ a (ap (with_mark c.args.mark) c.task-task.ensures)

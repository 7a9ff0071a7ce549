-- The record put back is the former one with another level.
use Rattle.std.proofs.Common.{ap, ◌∙◌}
use Rattle.rules.specs.State.{with_level}
use Rattle.tasks.proofs.Tables.{change_as}
use Rattle.tasks.proofs.Tasks.set_level.Goals as goal

pub returns : goal.returns
returns c =
    let a = c.args.self.now in
    c.replace.ensures ∙ change_as c.args.t (with_level c.args.level) _ a (ap (with_level c.args.level) c.task-task.ensures)

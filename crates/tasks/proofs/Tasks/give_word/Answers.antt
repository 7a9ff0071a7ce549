-- The record put back is the former one with another word.
use Rattle.std.proofs.Common.{ap, ◌∙◌}
use Rattle.rules.specs.State.{with_word}
use Rattle.tasks.proofs.Tables.{change_as}
use Rattle.tasks.proofs.Tasks.give_word.Goals as goal

pub returns : goal.returns
returns c =
    let a = c.args.self.now in
    c.replace.ensures ∙ change_as c.args.t (with_word c.args.word) _ a (ap (with_word c.args.word) c.task-task.ensures)

-- By the mark.
use Rattle.std.proofs.Common.{sym, ap, ◌∙◌}
use Rattle.tasks.proofs.Cases.{release_marked, release-plain}
use Rattle.tasks.proofs.Tasks.release.Goals as goal

pub returns-then-task : goal.returns-then-task
returns-then-task c = c.suspend.ensures ∙ release_marked c.args.self.now c.args.t (sym (ap (λ a. a.mark) c.task.ensures) ∙ c.if-task.true)

pub returns-else-task : goal.returns-else-task
returns-else-task c = c.link.ensures ∙ release-plain c.args.self.now c.args.t (sym (ap (λ a. a.mark) c.task.ensures) ∙ c.if-task.false)

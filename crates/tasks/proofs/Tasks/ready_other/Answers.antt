-- A suspended task is nowhere as soon as it has left its chain.
use Rattle.std.proofs.Common.{sym, ap, ◌∙◌}
use Rattle.rules.specs.Tables.{link}
use Rattle.tasks.proofs.Cases.{ready_else, ready-suspended}
use Rattle.tasks.proofs.Tasks.ready_other.Goals as goal

pub returns-then-is_suspended : goal.returns-then-is_suspended
returns-then-is_suspended c =
    c.link.ensures ∙ ap (link c.args.k) c.unsuspend.ensures.table ∙ ready-suspended c.args.self.now c.args.k _ c.set_mark.ensures (sym c.is_suspended.ensures ∙ c.if-is_suspended.true)

pub returns-else-is_suspended : goal.returns-else-is_suspended
returns-else-is_suspended c = ready_else c.args.self.now c.args.k _ c.set_mark.ensures (sym c.is_suspended.ensures ∙ c.if-is_suspended.false)

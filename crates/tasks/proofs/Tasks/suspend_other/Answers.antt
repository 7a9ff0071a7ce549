-- A ready task is nowhere as soon as it is taken out.
use Rattle.std.proofs.Common.{sym, ap, ◌∙◌}
use Rattle.rules.specs.Tables.{suspend}
use Rattle.tasks.proofs.Cases.{suspend_else, suspend-ready}
use Rattle.tasks.proofs.Tasks.suspend_other.Goals as goal

pub returns-then-is_ready : goal.returns-then-is_ready
returns-then-is_ready c =
    c.suspend.ensures ∙ ap (suspend c.args.k) c.take_out.ensures.table ∙ suspend-ready c.args.self.now c.args.k _ c.set_mark.ensures (sym c.is_ready.ensures ∙ c.if-is_ready.true)

pub returns-else-is_ready : goal.returns-else-is_ready
returns-else-is_ready c = suspend_else c.args.self.now c.args.k _ c.set_mark.ensures (sym c.is_ready.ensures ∙ c.if-is_ready.false)

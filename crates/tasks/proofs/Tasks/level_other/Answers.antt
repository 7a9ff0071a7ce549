-- A ready task is nowhere as soon as it is taken out.
use Rattle.std.proofs.Common.{sym, ap, ◌∙◌}
use Rattle.rules.specs.Tables.{link}
use Rattle.tasks.proofs.Cases.{level_else, level-ready}
use Rattle.tasks.proofs.Tasks.level_other.Goals as goal

pub returns-then-is_ready : goal.returns-then-is_ready
returns-then-is_ready c =
    c.link.ensures ∙ ap (link c.args.k) c.take_out.ensures.table ∙ level-ready c.args.self.now c.args.k _ c.args.level c.set_level.ensures (sym c.is_ready.ensures ∙ c.if-is_ready.true)

pub returns-else-is_ready : goal.returns-else-is_ready
returns-else-is_ready c = level_else c.args.self.now c.args.k _ c.args.level c.set_level.ensures (sym c.is_ready.ensures ∙ c.if-is_ready.false)

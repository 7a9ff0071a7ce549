-- What is left to hand out makes up what was to be handed out.
use Rattle.std.proofs.Common.{◌≡◌, length}
use Rattle.cells.specs.View.{cells, room}
use Rattle.rules.specs.Mail.{tasks_at}
use Rattle.waiting.proofs.Handed.{Handing}
use Rattle.waiting.proofs.mail.hand_all.Given as goal

abbrev pub invariant-loop-receiver : goal.invariant-loop-receiver
invariant-loop-receiver l = Handing l.cell l.message l.initial.tasks (cells l.initial.cells) l.tasks (cells l.cells) × (room l.cells ≡ room l.initial.cells)

abbrev pub decreases-loop-receiver : goal.decreases-loop-receiver
decreases-loop-receiver l = length (tasks_at l.cell (cells l.cells).waits)

-- What is left to release makes up what was to be released.
use Rattle.std.proofs.Common.{◌≡◌, length}
use Rattle.clock.specs.View.{room, sleeping}
use Rattle.waiting.proofs.Due.{Releasing, due}
use Rattle.waiting.proofs.timing.release_due.Given as goal

abbrev pub invariant-loop-task : goal.invariant-loop-task
invariant-loop-task l = Releasing l.reading l.initial.tasks (sleeping l.initial.waits) l.tasks (sleeping l.waits) l.count × (room l.waits ≡ room l.initial.waits)

abbrev pub decreases-loop-task : goal.decreases-loop-task
decreases-loop-task l = length (due l.reading (sleeping l.waits))

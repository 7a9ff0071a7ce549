-- The table has as many records as links, and is placed at every moment.
use Rattle.tasks.proofs.Tables.{size}
use Rattle.tasks.proofs.Tasks.count.Goals as goal

pub returns : goal.returns
returns c = rw (← c.self.view_is) (record { told = rw (size c.self.inside) c.len.ensures; placed = c.self.invariant.placed })

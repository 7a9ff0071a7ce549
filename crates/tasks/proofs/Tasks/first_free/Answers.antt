-- The head is the first of its chain.
use Rattle.tasks.proofs.Tables.{first-free-is}
use Rattle.tasks.proofs.Tasks.first_free.Goals as goal

pub returns : goal.returns
returns c = rw (← c.self.view_is) (first-free-is c.self.inside c.self.invariant)

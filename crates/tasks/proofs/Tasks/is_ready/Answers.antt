-- The list is that of the ready chain.
use Rattle.tasks.specs.Parts.{table_of}
use Rattle.tasks.proofs.Tasks.is_ready.Goals as goal

pub returns : goal.returns
unfolding table_of
returns c = rw (← c.self.view_is) c.is_on.ensures

-- The field is the table's.
use Rattle.tasks.proofs.Tables.{runs-is}
use Rattle.tasks.proofs.Tasks.running.Goals as goal

pub returns : goal.returns
returns c = rw (← c.self.view_is) (runs-is c.self.inside)

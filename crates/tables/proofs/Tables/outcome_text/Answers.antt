-- The running task is one of the records.
use Rattle.tables.proofs.Stands.{caller}
use Rattle.tables.proofs.Tables.outcome_text.Goals as goal

pub task-requires : goal.task-requires
task-requires c = (caller c.args.self.now c.in-Some.task c.in-Some.ensures).within

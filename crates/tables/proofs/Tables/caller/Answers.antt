-- The running task is one of the records and waits nowhere.
use Rattle.tables.proofs.Stands.{called}
use Rattle.tables.proofs.Tables.caller.Goals as goal

pub returns : goal.returns
returns c = rw c.ok_or.ensures.value (called c.args.self.now c.running.result c.running.ensures)

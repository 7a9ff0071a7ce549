-- The record of the rules is what the code's record stands for.
use Rattle.tasks.proofs.Tables.{record_is, within-links}
use Rattle.tasks.proofs.Tasks.task.Goals as goal

pub record_at-requires : goal.record_at-requires
record_at-requires c = within-links c.self.inside c.args.t (rw c.self.view_is c.requires)

pub returns : goal.returns
returns c = rw (← c.self.view_is) (record_is c.self.inside c.args.t _ (rw c.self.view_is c.requires) c.record_at.ensures)

-- Only the running task changes.
use Rattle.tasks.proofs.Placing.{stopped_unplaced}
use Rattle.tasks.proofs.Tables.{stopped}
use Rattle.tasks.proofs.Tasks.stop.Goals as goal

pub invariant_of-self : goal.invariant_of-self
invariant_of-self c = (stopped c.self.inside c.self.invariant).kept

pub returns : goal.returns
returns c =
    let n = stopped c.self.inside c.self.invariant in
    rw (← c.self.view_is) (record { table = n.is; left = λ t is. rw n.is (stopped_unplaced _ c.self.invariant.placed t is) })

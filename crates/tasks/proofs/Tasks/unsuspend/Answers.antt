-- The other chains have none of the suspended numbers.
use Rattle.tasks.proofs.Placing.{unsuspended_unplaced}
use Rattle.tasks.proofs.Tables.{unsuspended}
use Rattle.tasks.proofs.Tasks.unsuspend.Goals as goal

pub invariant_of-self : goal.invariant_of-self
invariant_of-self c = let u = c.take_out in (unsuspended c.self.inside c.self.invariant c.args.t u.new.self u.new.head u.ensures.records u.ensures.links).kept

pub returns : goal.returns
returns c =
    let u = c.take_out in
    let n = unsuspended c.self.inside c.self.invariant c.args.t u.new.self u.new.head u.ensures.records u.ensures.links in
    rw (← c.self.view_is) (record { table = n.is; left = λ on. rw n.is (unsuspended_unplaced _ c.self.invariant.placed c.args.t on) })

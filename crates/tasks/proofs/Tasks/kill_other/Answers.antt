-- A live task that does not run can be placed as soon as it has left both chains.
use Rattle.tasks.proofs.Placing.{left_unplaced}
use Rattle.tasks.proofs.Tasks.kill_other.Goals as goal

pub clear-requires : goal.clear-requires
clear-requires c =
    let r = c.requires in
    let o = c.take_out.ensures in
    let u = c.unsuspend.ensures in
    rw (u.table, o.table) (left_unplaced c.args.k c.args.self.now r.within r.live r.other (rw (← o.table) o.left) (rw (← o.table, ← u.table) u.left))

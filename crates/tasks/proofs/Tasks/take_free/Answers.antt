-- Only the head of the free chain moves.
use Rattle.tasks.proofs.Placing.{freed_unplaced}
use Rattle.tasks.proofs.Tables.{free-taken}
use Rattle.tasks.proofs.Tasks.take_free.Goals as goal

pub invariant_of-self : goal.invariant_of-self
invariant_of-self c = let u = c.take_first in (free-taken c.self.inside c.self.invariant u.new.head u.ensures.ends u.ensures.rest).kept

pub returns : goal.returns
returns c =
    let u = c.take_first in
    let n = free-taken c.self.inside c.self.invariant u.new.head u.ensures.ends u.ensures.rest in
    rw (← c.self.view_is) (record { table = n.is; left = λ k is. rw n.is (freed_unplaced _ c.self.invariant.placed k is) })

-- The task is not on the ready chain, and the other chains have none of its numbers.
use Rattle.tasks.proofs.Tables.{linked, not-ready, within-links}
use Rattle.tasks.proofs.Tasks.link.Goals as goal

pub link_by_rank-requires-clause-within : goal.link_by_rank-requires-clause-within
link_by_rank-requires-clause-within c = within-links c.self.inside c.args.t (rw c.self.view_is c.requires.within)

pub link_by_rank-requires-clause-fresh : goal.link_by_rank-requires-clause-fresh
link_by_rank-requires-clause-fresh c = not-ready c.self.inside c.args.t (rw c.self.view_is c.requires)

pub invariant_of-self : goal.invariant_of-self
invariant_of-self c = let u = c.link_by_rank in (linked c.self.inside c.self.invariant c.args.t (rw c.self.view_is c.requires) u.new.self u.new.head u.ensures.records u.ensures.links).kept

pub returns : goal.returns
returns c = let u = c.link_by_rank in rw (← c.self.view_is) (linked c.self.inside c.self.invariant c.args.t (rw c.self.view_is c.requires) u.new.self u.new.head u.ensures.records u.ensures.links).is

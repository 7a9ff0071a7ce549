-- The task is not on the suspended chain, and the other chains have none of its numbers.
use Rattle.tasks.proofs.Tables.{not-suspended, suspended, within-links}
use Rattle.tasks.proofs.Tasks.suspend.Goals as goal

pub put_first-requires-clause-within : goal.put_first-requires-clause-within
put_first-requires-clause-within c = within-links c.self.inside c.args.t (rw c.self.view_is c.requires.within)

pub put_first-requires-clause-fresh : goal.put_first-requires-clause-fresh
put_first-requires-clause-fresh c = not-suspended c.self.inside c.args.t (rw c.self.view_is c.requires)

pub invariant_of-self : goal.invariant_of-self
invariant_of-self c = let u = c.put_first in (suspended c.self.inside c.self.invariant c.args.t (rw c.self.view_is c.requires) u.new.self u.new.head u.ensures.records u.ensures.links).kept

pub returns : goal.returns
returns c = let u = c.put_first in rw (← c.self.view_is) (suspended c.self.inside c.self.invariant c.args.t (rw c.self.view_is c.requires) u.new.self u.new.head u.ensures.records u.ensures.links).is

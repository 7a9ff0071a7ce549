-- The first ready task is taken off its chain and runs.
use Rattle.tasks.proofs.Tables.{chosen}
use Rattle.tasks.proofs.Tasks.choose.Goals as goal

pub invariant_of-self : goal.invariant_of-self
invariant_of-self c = let u = c.take_first-self-inside in (chosen c.self.inside c.self.invariant u.new.head u.ensures.ends u.result u.ensures.first u.ensures.rest).kept

pub returns : goal.returns
returns c = let u = c.take_first-self-inside in rw (← c.self.view_is) (chosen c.self.inside c.self.invariant u.new.head u.ensures.ends u.result u.ensures.first u.ensures.rest).is

-- The chains run as they did.
use Rattle.tasks.proofs.Tables.{replaced, within-links}
use Rattle.tasks.proofs.Tasks.replace.Goals as goal

pub replace-requires : goal.replace-requires
replace-requires c = within-links c.self.inside c.args.t (rw c.self.view_is c.requires)

pub invariant_of-self : goal.invariant_of-self
invariant_of-self c = let u = c.replace in (replaced c.self.inside c.self.invariant c.args.t c.args.with u.new.self u.ensures.next u.ensures.records).kept

pub returns : goal.returns
returns c = let u = c.replace in rw (← c.self.view_is) (replaced c.self.inside c.self.invariant c.args.t c.args.with u.new.self u.ensures.next u.ensures.records).is

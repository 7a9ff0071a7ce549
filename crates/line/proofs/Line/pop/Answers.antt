-- The rest of the chain is the rest of the list.
use Rattle.line.proofs.Lines.{waits-rest}
use Rattle.line.proofs.Line.pop.Goals as goal

pub returns-clause-list : goal.returns-clause-list
returns-clause-list g c none = let s = c.args.self.now in waits-rest none s.links s.head c.take_first.new.head c.take_first.ensures.rest

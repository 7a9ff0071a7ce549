-- The queue that is put back has as much room as it had.
use Rattle.queues.proofs.Everywhere.{even_still}
use Rattle.queues.proofs.four.Queues.pop.Goals as goal

pub invariant_of-self : goal.invariant_of-self
invariant_of-self c = record { even = even_still c.args.self.now.at c.from.result c.index-self-from.result c.pop.new.self c.pop.ensures.room c.args.self.now.even }

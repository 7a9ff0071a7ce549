-- The rest of the line is the rest of the queue.
use Rattle.std.proofs.Common.{sym, ap, ◌∙◌}
use Rattle.chain.specs.Lists.{first}
use Rattle.line.specs.View.{list}
use Rattle.queues.specs.View.{lined}
use Rattle.queues.proofs.Requests.{askers_are, requests-rest}
use Rattle.queues.proofs.Queue.pop.Goals as goal

pub returns-clause-first : goal.returns-clause-first
returns-clause-first c = c.pop.ensures.first ∙ sym (ap first (askers_are c.args.self.now))

pub returns-clause-requests : goal.returns-clause-requests
returns-clause-requests c = requests-rest (lined c.args.self.now) (list (record { size = 0; moved = 0 }) c.pop.new.self) (c.pop.ensures.list (record { size = 0; moved = 0 }))

-- The first of the line is the first request.
use Rattle.queues.specs.View.{lined}
use Rattle.queues.proofs.Requests.{requests-first}
use Rattle.queues.proofs.Queue.first.Goals as goal

pub returns : goal.returns
returns c = requests-first (lined c.args.self.now) (lined c.args.self.now) c.first.result (c.first.ensures (record { size = 0; moved = 0 }))

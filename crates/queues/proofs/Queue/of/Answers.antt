-- A new line has no requests.
use Rattle.line.specs.View.{list}
use Rattle.queues.proofs.Requests.{requests-none}
use Rattle.queues.proofs.Queue.of.Goals as goal

pub returns-clause-requests : goal.returns-clause-requests
returns-clause-requests c =
    let ws = list (record { size = 0; moved = 0 }) c.in_ok-line.line in
    requests-none ws ws (c.in_ok-line.ensures.list (record { size = 0; moved = 0 }))

-- The first request has one more byte moved, and keeps its place.
use Rattle.std.proofs.Common.{Some, sym, arith}
use Rattle.line.specs.View.{list}
use Rattle.queues.specs.View.{as_request, lined}
use Rattle.queues.proofs.Requests.{requests-advanced, requests-empty, requests-first}
use Rattle.queues.proofs.Queue.advance.Goals as goal

pub overflow_add-moved : goal.overflow_add-moved
overflow_add-moved c =
    let w = c.in-Some.first in
    let is = requests-first (lined c.args.self.now) (lined c.args.self.now) (Some w) (c.in-Some.ensures (record { size = 0; moved = 0 })) in
    let l = c.requires (as_request w) (sym is) in
    omega arith

pub returns-in_default-clause-requests : goal.returns-in_default-clause-requests
returns-in_default-clause-requests c = requests-empty (lined c.args.self.now) (lined c.args.self.now) (c.in_default.ensures (record { size = 0; moved = 0 }))

pub returns-in-Some-clause-requests : goal.returns-in-Some-clause-requests
returns-in-Some-clause-requests c =
    requests-advanced (lined c.args.self.now) (list (record { size = 0; moved = 0 }) c.replace_first.new.self) c.in-Some.first (c.in-Some.ensures (record { size = 0; moved = 0 })) (c.replace_first.ensures.list (record { size = 0; moved = 0 }))

-- All requests rank alike: a new one goes behind all.
use Rattle.std.proofs.Common.{sym, ap, ◌∙◌}
use Rattle.chain.specs.Lists.{has}
use Rattle.line.specs.Waits.{waiting}
use Rattle.line.specs.View.{list}
use Rattle.queues.specs.View.{lined}
use Rattle.queues.proofs.Requests.{askers_are, requests-joined}
use Rattle.queues.proofs.Queue.join.Goals as goal

pub join-requires-clause-fresh : goal.join-requires-clause-fresh
join-requires-clause-fresh c = sym (ap (has c.args.t) (askers_are c.args.self.now)) ∙ c.requires.fresh

pub returns-clause-requests : goal.returns-clause-requests
returns-clause-requests c =
    requests-joined (lined c.args.self.now) (list (record { size = 0; moved = 0 }) c.join.new.self) (waiting c.args.t (record { size = c.args.size; moved = 0 })) (c.join.ensures.list (record { size = 0; moved = 0 }))

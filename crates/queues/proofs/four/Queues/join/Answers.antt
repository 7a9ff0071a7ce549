-- A task that waits at no unit is in no queue, and the queue that is put back has as much room as it had.
use Rattle.std.proofs.Common.{sym, ap, ◌∙◌, arith}
use Rattle.chain.specs.Lists.{has}
use Rattle.queues.specs.declared.Queue.{Queue}
use Rattle.queues.specs.View.{requests}
use Rattle.rules.specs.Records.{askers}
use Rattle.queues.proofs.Everywhere.{at_none, even_still, low}
use Rattle.queues.proofs.four.Queues.join.Goals as goal

pub join-requires-clause-fresh : goal.join-requires-clause-fresh
join-requires-clause-fresh c =
    let q = c.index-self-from.result in
    let four = c.args.self.now.even.four in
    let l = low c.args.unit in
    let e = c.from.ensures in
    sym (ap (λ (x : Queue). has c.args.t (askers (requests x))) c.index-self-from.is)
    ∙ at_none c.args.t c.args.self.now.at c.from.result q (omega arith) c.index-self-from.is c.requires.fresh

pub invariant_of-self : goal.invariant_of-self
invariant_of-self c = record { even = even_still c.args.self.now.at c.from.result c.index-self-from.result c.join.new.self c.join.ensures.room c.args.self.now.even }

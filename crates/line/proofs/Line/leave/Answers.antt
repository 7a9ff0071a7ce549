-- The chain without a number is the list without its task.
use Rattle.line.proofs.Lines.{waits-without}
use Rattle.line.proofs.Line.leave.Goals as goal

pub returns-clause-list : goal.returns-clause-list
returns-clause-list g c none =
    let s = c.args.self.now in
    let u = c.take_out in
    waits-without none s.links s.head u.new.self u.new.head c.args.t u.ensures.records u.ensures.links.list

-- A wait joins the line by its due tick.
use Rattle.std.proofs.Common.{sym, ap, ◌∙◌}
use Rattle.chain.specs.Lists.{has}
use Rattle.line.specs.View.{list}
use Rattle.clock.specs.Waits.{waits_of}
use Rattle.clock.proofs.Sleeps.{joined-by-due, sleepers_are, wait_joined}
use Rattle.clock.proofs.ClockWaits.join.Goals as goal

pub join-requires-clause-fresh : goal.join-requires-clause-fresh
join-requires-clause-fresh c = sym (ap (has c.args.t) (sleepers_are c.args.self.now.line)) ∙ c.requires.fresh

pub invariant_of-self : goal.invariant_of-self
invariant_of-self c =
    let x = c.args.self.now.line in
    let y = c.join.new.self in
    let is = wait_joined c.args.t c.args.due (list (record { due = 0 }) x) (list (record { due = 0 }) y) (c.join.ensures.list (record { due = 0 })) in
    record { sorted = joined-by-due c.args.t c.args.due (waits_of x) (waits_of y) is c.args.self.now.sorted }

pub returns-clause-waits : goal.returns-clause-waits
returns-clause-waits c =
    let x = c.args.self.now.line in
    let y = c.join.new.self in
    wait_joined c.args.t c.args.due (list (record { due = 0 }) x) (list (record { due = 0 }) y) (c.join.ensures.list (record { due = 0 }))

-- A wait is taken out wherever it stands.
use Rattle.line.specs.View.{list}
use Rattle.clock.specs.Waits.{waits_of}
use Rattle.clock.proofs.Sleeps.{left-by-due, wait_left}
use Rattle.clock.proofs.ClockWaits.leave.Goals as goal

pub invariant_of-self : goal.invariant_of-self
invariant_of-self c =
    let x = c.args.self.now.line in
    let y = c.leave.new.self in
    let is = wait_left c.args.t (list (record { due = 0 }) x) (list (record { due = 0 }) y) (c.leave.ensures.list (record { due = 0 })) in
    record { sorted = left-by-due c.args.t (waits_of x) (waits_of y) is c.args.self.now.sorted }

pub returns-clause-waits : goal.returns-clause-waits
returns-clause-waits c =
    let x = c.args.self.now.line in
    let y = c.leave.new.self in
    wait_left c.args.t (list (record { due = 0 }) x) (list (record { due = 0 }) y) (c.leave.ensures.list (record { due = 0 }))

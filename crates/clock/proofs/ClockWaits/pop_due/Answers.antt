-- The waits stand by due tick, so the first that is due is the first of all, and where that is later none is due.
use Rattle.std.proofs.Common.{None, refl, arith}
use Rattle.line.specs.View.{list}
use Rattle.clock.specs.Waits.{waits_of}
use Rattle.clock.proofs.Sleeps.{first-task, popped_due, popped_later, popped_none, released, rest_as, rest-by-due}
use Rattle.clock.proofs.ClockWaits.pop_due.Goals as goal

pub returns-in_err-first : goal.returns-in_err-first
returns-in_err-first c =
    let x = c.args.self.now.line in
    let p = popped_none c.args.reading (list (record { due = 0 }) x) (c.in_err-first.ensures (record { due = 0 })) in
    rw c.from_residual.ensures (record { first = p.0; waits = p.1; laws = released c.args.reading None (waits_of x) (waits_of x) p.0 p.1; room = refl })

pub returns-then-first-reading : goal.returns-then-first-reading
returns-then-first-reading c =
    let x = c.args.self.now.line in
    let p = popped_later c.args.reading (list (record { due = 0 }) x) c.in_ok-first.first (c.in_ok-first.ensures (record { due = 0 })) (omega arith) c.args.self.now.sorted in
    record { first = p.0; waits = p.1; laws = released c.args.reading None (waits_of x) (waits_of x) p.0 p.1; room = refl }

pub invariant_of-self : goal.invariant_of-self
invariant_of-self c =
    let x = c.args.self.now.line in
    let y = c.pop.new.self in
    let is = rest_as (list (record { due = 0 }) x) (list (record { due = 0 }) y) (c.pop.ensures.list (record { due = 0 })) in
    record { sorted = rest-by-due (waits_of x) (waits_of y) is c.args.self.now.sorted }

pub returns : goal.returns
returns c =
    let x = c.args.self.now.line in
    let y = c.pop.new.self in
    let is = first-task x c.in_ok-first.first c.pop.result c.in_ok-first.ensures c.pop.ensures.first in
    let p = popped_due c.args.reading c.pop.result (list (record { due = 0 }) x) (list (record { due = 0 }) y) c.in_ok-first.first (c.in_ok-first.ensures (record { due = 0 })) (omega arith) is (c.pop.ensures.list (record { due = 0 })) in
    record { first = p.0; waits = p.1; laws = released c.args.reading c.pop.result (waits_of x) (waits_of y) p.0 p.1; room = c.pop.ensures.room }

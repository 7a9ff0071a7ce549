-- Tables that begin as the rules do stand.
use Rattle.tables.specs.Parts.{blanks}
use Rattle.tables.proofs.Stands.{begun, starts}
use Rattle.tables.proofs.Tables.of.Goals as goal

pub invariant_of-result : goal.invariant_of-result
invariant_of-result c =
    let w = c.in_ok-waits.ensures in
    let x = c.in_ok-cells.ensures in
    let q = c.in_ok-queues.ensures in
    record { stands = begun c.args.n c.args.timed _ _ _ _ c.requires.some c.requires.few (starts _ _ blanks _ _ _ _ _ c.in_ok-tasks.ensures w.waits x.cells q.queues c.then_some.ensures) (w.room, x.room, q.room) }

pub returns-clause-begins : goal.returns-clause-begins
returns-clause-begins c us = starts _ _ us _ _ _ _ _ c.in_ok-tasks.ensures c.in_ok-waits.ensures.waits c.in_ok-cells.ensures.cells c.in_ok-queues.ensures.queues c.then_some.ensures

-- A line with nobody on it stands by due tick.
use Rattle.std.proofs.Common.{ap}
use Rattle.chain.specs.Lists.{sorted}
use Rattle.line.specs.View.{list}
use Rattle.rules.specs.State as rules
use Rattle.clock.proofs.Sleeps.{none_wait}
use Rattle.clock.proofs.ClockWaits.of.Goals as goal

pub invariant_of-result : goal.invariant_of-result
invariant_of-result c = let x = c.in_ok-line.line in record { sorted = ap (sorted (λ (w : rules.ClockWait). w.due)) (none_wait (list (record { due = 0 }) x) (c.in_ok-line.ensures.list (record { due = 0 }))) }

pub returns-clause-waits : goal.returns-clause-waits
returns-clause-waits c = none_wait (list (record { due = 0 }) c.in_ok-line.line) (c.in_ok-line.ensures.list (record { due = 0 }))

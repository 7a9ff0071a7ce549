-- A step of the rules keeps what holds of the tables.
use Rattle.std.proofs.Common.{◌≡◌, Some, refl, arith, rules}
use Rattle.calls.specs.declared.call.Call.TheVariants.{Delay}
use Rattle.tables.proofs.Stands.{kept}
use Rattle.waiting.proofs.timing.delay.Goals as goal

pub invariant_of-tables : goal.invariant_of-tables
invariant_of-tables c =
    let k = c.args.tables.now in
    let z : k.clock ≡ Some c.in_ok-reading.reading = grind arith in
    record { stands = kept k (Delay c.args.ticks) c.ranges.ticks.fits (search rules) (c.join.ensures.room, refl, refl) }

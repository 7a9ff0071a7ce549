-- A step of the rules keeps what holds of the tables.
use Rattle.std.proofs.Common.{◌≡◌, Some, refl, arith, rules}
use Rattle.calls.specs.declared.call.Call.TheVariants.{Tick}
use Rattle.tables.proofs.Stands.{kept}
use Rattle.waiting.proofs.timing.tick.Goals as goal

pub invariant_of-tables : goal.invariant_of-tables
invariant_of-tables c =
    let k = c.args.tables.now in
    let z : k.clock ≡ Some c.in_ok-reading.reading = grind arith in
    record { stands = kept k Tick tt (search rules) (c.release_due-count.ensures.room, refl, refl) }

-- A step of the rules keeps what holds of the tables.
use Rattle.std.proofs.Common.{refl, rules}
use Rattle.calls.specs.declared.call.Call.TheVariants.{Kill}
use Rattle.tables.proofs.Stands.{kept}
use Rattle.own.proofs.kill.Goals as goal

pub invariant_of-tables : goal.invariant_of-tables
invariant_of-tables c = record { stands = kept c.args.tables.now Kill tt (search rules) (refl, refl, refl) }

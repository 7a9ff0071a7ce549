-- A step of the rules keeps what holds of the tables.
use Rattle.std.proofs.Common.{refl, rules}
use Rattle.calls.specs.declared.call.Call.TheVariants.{SetLevel}
use Rattle.tables.proofs.Stands.{kept}
use Rattle.own.proofs.set_level.Goals as goal

pub invariant_of-tables : goal.invariant_of-tables
invariant_of-tables c = record { stands = kept c.args.tables.now (SetLevel c.args.level) tt (search rules) (refl, refl, refl) }

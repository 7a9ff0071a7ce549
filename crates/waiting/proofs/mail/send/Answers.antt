-- A step of the rules keeps what holds of the tables.
use Rattle.std.proofs.Common.{rules}
use Rattle.calls.specs.declared.call.Call.TheVariants.{Send}
use Rattle.tables.proofs.Stands.{kept}
use Rattle.waiting.proofs.mail.send.Goals as goal

pub invariant_of-tables : goal.invariant_of-tables
invariant_of-tables c = record { stands = kept c.args.tables.now (Send c.args.cell c.args.message c.args.stay) c.ranges.cell.fits (search rules) (search rules) }

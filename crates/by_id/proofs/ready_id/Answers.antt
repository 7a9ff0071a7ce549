-- On the caller there is only the turn; another task is one of the records.
use Rattle.std.proofs.Common.{refl, sym, rules}
use Rattle.calls.specs.declared.call.ByIdCall.TheVariants as by
use Rattle.calls.specs.declared.call.Call.TheVariants.{ById}
use Rattle.tables.proofs.Stands.{kept}
use Rattle.rules.proofs.Waits.{found}
use Rattle.by_id.proofs.ready_id.Goals as goal

pub ready_other-requires : goal.ready_other-requires
ready_other-requires c = (found c.args.id c.in-Some.task c.args.tables.now.tasks (sym c.in-Some.ensures)).inside

pub invariant_of-tables : goal.invariant_of-tables
invariant_of-tables c = record { stands = kept c.args.tables.now (ById c.args.id by.Ready) tt (search rules) (refl, refl, refl) }

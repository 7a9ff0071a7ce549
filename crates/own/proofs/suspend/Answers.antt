-- The caller, which runs no longer, is nowhere and can be suspended.
use Rattle.std.proofs.Common.{refl, rules, sym}
use Rattle.calls.specs.declared.call.Call.TheVariants.{Suspend}
use Rattle.tasks.proofs.Placing.{changed_unplaced}
use Rattle.tables.proofs.Stands.{kept}
use Rattle.own.proofs.suspend.Goals as goal

pub suspend-requires : goal.suspend-requires
suspend-requires c = rw c.set_mark.ensures (changed_unplaced _ (c.stop.ensures.left c.in_ok-caller.caller (sym c.in_ok-caller.ensures.runs)))

pub invariant_of-tables : goal.invariant_of-tables
invariant_of-tables c = record { stands = kept c.args.tables.now Suspend tt (search rules) (refl, refl, refl) }

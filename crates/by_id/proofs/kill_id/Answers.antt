-- On the caller it is the caller's own call; another task leaves its wait and its chain.
use Rattle.std.proofs.Common.{sym, rules}
use Rattle.rules.proofs.Waits.{found}
use Rattle.tables.specs.View.{state}
use Rattle.tables.proofs.Stands.{kept}
use Rattle.calls.specs.declared.call.ByIdCall.TheVariants as by
use Rattle.calls.specs.declared.call.Call.TheVariants.{ById}
use Rattle.by_id.proofs.Named.{same_step, own_kill}
use Rattle.by_id.proofs.kill_id.Goals as goal

pub returns-then-task-caller : goal.returns-then-task-caller
returns-then-task-caller c =
    same_step (λ us. own_kill (state us c.args.tables.now) c.in_ok-caller.caller c.in-Some.task c.args.id c.in_ok-caller.ensures.runs c.in-Some.ensures c.if-task-caller.true) c.kill.ensures

pub kill_other-requires-clause-within : goal.kill_other-requires-clause-within
kill_other-requires-clause-within c = (found c.args.id c.in-Some.task c.args.tables.now.tasks (sym c.in-Some.ensures)).inside

pub kill_other-requires-clause-live : goal.kill_other-requires-clause-live
kill_other-requires-clause-live c = (found c.args.id c.in-Some.task c.args.tables.now.tasks (sym c.in-Some.ensures)).live

pub invariant_of-tables : goal.invariant_of-tables
invariant_of-tables c = record { stands = kept c.args.tables.now (ById c.args.id by.Kill) tt (search rules) (search rules) }

-- What is asked for is what the rules ask for.
use Rattle.std.proofs.Common.{List, Ok, Err, refl, ap, ◌∙◌}
use Rattle.calls.specs.Calls.{transfer_with}
use Rattle.calls.specs.declared.call.Call.TheVariants.{Transfer}
use Rattle.rules.specs.Rules.{apply}
use Rattle.std.proofs.lemmas.Result.{err_from_is_err_and}
use Rattle.unit.specs.Medium.{Medium}
use Rattle.tables.specs.Parts.{blanks, state_of}
use Rattle.tables.specs.View.{state}
use Rattle.tables.proofs.Stands.{kept}
use Rattle.transfers.proofs.Requested.{Is, granted, refused}
use Rattle.transfers.proofs.asking.transfer.Goals as goal
use Rattle.transfers.proofs.asking.transfer.Goals.{After-turn, In_err-asked, at-returns, at-returns-in_err-asked}

-- the refusal, as the rules see it
not_done : (c : In_err-asked) (us : List Medium)
    → Is (state us c.args.tables.now) (Err c.in_err-asked.field-0.0) (apply (Transfer c.args.unit (transfer_with (λ t. t.now) c.args.transfer)) (state us c.args.tables.now))
not_done c us = refused c.args.unit (transfer_with (λ t. t.now) c.args.transfer) c.in_ok-caller.ensures c.in_ok-at.ensures us c.in_err-asked.ensures

pub returns-in_err-asked : goal.returns-in_err-asked
returns-in_err-asked c =
    let p = err_from_is_err_and c.from_residual-in_err-asked.result c.from_residual-in_err-asked.ensures.1 in
    record { state = λ us. (not_done (at-returns-in_err-asked c).In_err-asked us).state; answer = λ us. p.1 ∙ ap Err p.2 ∙ (not_done (at-returns-in_err-asked c).In_err-asked us).answer; room = (refl, refl, refl) }

-- the transfer, as the rules see it
done : (c : After-turn) (us : List Medium)
    → Is (state_of us c.turn.new.self c.args.tables.now.waits c.args.tables.now.cells c.join.new.self c.args.tables.now.clock) (Ok 0)
    (apply (Transfer c.args.unit (transfer_with (λ t. t.now) c.args.transfer)) (state us c.args.tables.now))
done c us =
    granted c.args.unit (transfer_with (λ t. t.now) c.args.transfer) c.in_ok-caller.ensures c.in_ok-at.ensures us c.turn.new.self c.join.new.self c.in_ok-asked.ensures
    c.stop.ensures.table c.task.ensures c.begun-task.ensures c.replace.ensures c.turn.ensures c.join.ensures.queues

pub returns : goal.returns
returns c = record { state = λ us. (done (at-returns c).After-turn us).state; answer = λ us. (done (at-returns c).After-turn us).answer; room = (refl, refl, c.join.ensures.room) }

pub invariant_of-tables : goal.invariant_of-tables
invariant_of-tables c = record { stands = kept c.args.tables.now (Transfer c.args.unit (transfer_with (λ t. t.now) c.args.transfer)) tt (done c blanks).state (refl, refl, c.join.ensures.room) }

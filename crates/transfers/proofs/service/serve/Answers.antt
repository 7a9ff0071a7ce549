-- The first request is one that its task can have; what the move makes of it is what the rules make of it.
use Rattle.std.proofs.Common.{◌≡◌, true, List, length, set, length-set, Ok, sym, refl, ap, ◌∙◌, subst, arith}
use Rattle.std.proofs.lemmas.Bool.Decides.{nat_tests}
use Rattle.std.specs.Option.{option_map}
use Rattle.calls.specs.declared.call.Call.TheVariants.{Service}
use Rattle.queues.specs.Number.{number_of}
use Rattle.queues.specs.View.{as_request}
use Rattle.rules.specs.Rules.{apply}
use Rattle.rules.specs.Sound.{fits}
use Rattle.rules.specs.State.{Task}
use Rattle.tasks.specs.Parts.{as_task}
use Rattle.unit.specs.Medium.{Medium}
use Rattle.moving.specs.Moved.{move_for}
use Rattle.tables.specs.Parts.{blanks, state_of}
use Rattle.tables.specs.View.{state}
use Rattle.transfers.proofs.Requested.{Is}
use Rattle.transfers.proofs.Served.{Moves, went_on, was_last}
use Rattle.tables.proofs.Stands.{First, first_request, kept-over, put}
use Rattle.transfers.proofs.service.serve.Given as given
use Rattle.transfers.proofs.service.serve.Goals as goal
use Rattle.transfers.proofs.service.serve.Goals.{In_ok-first, After-replace, After-advance, After-finish, at-task-requires, at-one_move-outcome-requires, at-replace-requires, at-finish-requires, at-invariant_of-tables, at-invariant_of-tables-2, at-returns, at-returns-then-is_some}

-- the first request
found : (g : given.Over) (c : In_ok-first g) → First c.args.tables.now c.args.unit (as_request c.in_ok-first.first)
found g c = first_request c.args.tables.now c.args.unit (as_request c.in_ok-first.first) (ap (option_map as_request) (sym c.in_ok-first.ensures.ok_part) ∙ c.first.ensures)

pub task-requires : goal.task-requires
task-requires g c = (found g (at-task-requires g c).In_ok-first).unplaced.within

pub one_move-outcome-requires : goal.one_move-outcome-requires
one_move-outcome-requires g c = subst (λ (x : Task). fits x (as_request c.in_ok-first.first) ≡ true) (sym c.task.ensures) (found g (at-one_move-outcome-requires g c).In_ok-first).fit

pub replace-requires : goal.replace-requires
replace-requires g c = (found g (at-replace-requires g c).In_ok-first).unplaced.within

pub advance-requires : goal.advance-requires
advance-requires g c = λ r e. let f = (first_request c.args.tables.now c.args.unit r (sym e)).fit in grind (arith, nat_tests)

pub finish-requires : goal.finish-requires
finish-requires g c = put c.args.tables.now c.args.unit (as_request c.in_ok-first.first) (as_task c.one_move-outcome.new.task) c.replace.new.self (found g (at-finish-requires g c).In_ok-first) c.replace.ensures

-- what the move came to
move-is : (g : given.Over) (c : After-replace g) → Moves (g.U.Unit.medium c.one_move-outcome.new.device) (as_task c.one_move-outcome.new.task) c.one_move-outcome.result
    (move_for (as_task c.task.result.now) (as_request c.in_ok-first.first) (g.U.Unit.medium c.args.device.now)) (as_task c.task.result.now)
move-is g c = record { medium = c.one_move-outcome.ensures.medium; task = c.one_move-outcome.ensures.task; ends = c.one_move-outcome.ensures.ends }

-- the transfer goes on, as the rules see it
on : (g : given.Over) (c : After-advance g) (us : List Medium) → length us ≡ 4
    → Is (state_of (set us (number_of c.args.unit) (g.U.Unit.medium c.one_move-outcome.new.device)) c.replace.new.self c.args.tables.now.waits c.args.tables.now.cells c.advance.new.self c.args.tables.now.clock)
    (Ok 0) (apply (Service (number_of c.args.unit)) (state (set us (number_of c.args.unit) (g.U.Unit.medium c.args.device.now)) c.args.tables.now))
on g c us four =
    let w = at-invariant_of-tables-2 g c in
    went_on (g.U.Unit.medium c.args.device.now) us four (found g w.In_ok-first) c.task.ensures (move-is g w.After-replace) c.replace.ensures c.replace.new.self c.advance.new.self (sym c.is_some.ensures ∙ c.if-is_some.false) refl c.advance.ensures.queues

-- the transfer ends
last : (g : given.Over) (c : After-finish g) (us : List Medium) → length us ≡ 4
    → Is (state_of (set us (number_of c.args.unit) (g.U.Unit.medium c.one_move-outcome.new.device)) c.finish.new.tasks c.args.tables.now.waits c.args.tables.now.cells c.pop.new.self c.args.tables.now.clock)
    (Ok 1) (apply (Service (number_of c.args.unit)) (state (set us (number_of c.args.unit) (g.U.Unit.medium c.args.device.now)) c.args.tables.now))
last g c us four =
    let w = at-invariant_of-tables g c in
    was_last (g.U.Unit.medium c.args.device.now) us four (found g w.In_ok-first) c.task.ensures (move-is g w.After-replace) c.replace.ensures c.finish.new.tasks c.pop.new.self (sym c.is_some.ensures ∙ c.if-is_some.true) c.finish.ensures c.pop.ensures.queues

pub returns-then-is_some : goal.returns-then-is_some
returns-then-is_some g c = record { state = λ us four. (last g (at-returns-then-is_some g c).After-finish us four).state; answer = λ us four. (last g (at-returns-then-is_some g c).After-finish us four).answer; room = (refl, refl, c.pop.ensures.room) }

pub returns : goal.returns
returns g c = record { state = λ us four. (on g (at-returns g c).After-advance us four).state; answer = λ us four. (on g (at-returns g c).After-advance us four).answer; room = (refl, refl, c.advance.ensures.room) }

pub invariant_of-tables : goal.invariant_of-tables
invariant_of-tables g c =
    let m = g.U.Unit.medium c.args.device.now in
    let u = number_of c.args.unit in
    record { stands = kept-over c.args.tables.now (Service u) (set blanks u m) (length-set blanks u m) tt (last g c blanks refl).state (refl, refl, c.pop.ensures.room) }

pub invariant_of-tables-2 : goal.invariant_of-tables-2
invariant_of-tables-2 g c =
    let m = g.U.Unit.medium c.args.device.now in
    let u = number_of c.args.unit in
    record { stands = kept-over c.args.tables.now (Service u) (set blanks u m) (length-set blanks u m) tt (on g c blanks refl).state (refl, refl, c.advance.ensures.room) }

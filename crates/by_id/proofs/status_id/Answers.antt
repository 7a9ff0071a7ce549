-- The status of the caller and of another task is told the same way.
use Rattle.std.proofs.Common.{List, Ok, sym, refl, ap, ◌∙◌}
use Rattle.unit.specs.Medium.{Medium}
use Rattle.rules.specs.Acts.{Done}
use Rattle.rules.proofs.Waits.{found}
use Rattle.tables.specs.View.{state}
use Rattle.by_id.proofs.Named.{status_told}
use Rattle.by_id.proofs.status_id.Goals as goal

pub status-requires : goal.status-requires
status-requires c = (found c.args.id c.in-Some.task c.args.tables.now.tasks (sym c.in-Some.ensures)).inside

pub returns : goal.returns
returns c =
    let same = λ (us : List Medium). sym (status_told (state us c.args.tables.now) c.in_ok-caller.field-0 c.in-Some.task c.args.id c.in_ok-caller.ensures.runs c.in-Some.ensures) in
    record { state = λ us. ap (λ (d : Done). d.state) (same us); answer = λ us. ap Ok (c.status.ensures us) ∙ ap (λ (d : Done). d.answer) (same us); room = (refl, refl, refl) }

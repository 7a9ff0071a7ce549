-- The free record is one of the records.
use Rattle.std.proofs.Common.{refl, rules, sym, ◌∙◌, arith}
use Rattle.calls.specs.declared.call.Call.TheVariants.{Create}
use Rattle.tasks.proofs.Placing.{first-free-within}
use Rattle.tables.proofs.Stands.{kept, placed}
use Rattle.own.proofs.create.Goals as goal

pub invariant_of-tables : goal.invariant_of-tables
invariant_of-tables c = record { stands = kept c.args.tables.now (Create c.args.id c.args.level c.args.start c.args.message) tt (search rules) (refl, refl, refl) }

pub overflow_cast-result : goal.overflow_cast-result
overflow_cast-result c =
    let tables = c.args.tables.now in
    let f = tables.stands.few in
    let w = first-free-within tables.tasks (placed tables) c.in_ok-free.free (sym c.first_free.ensures ∙ c.in_ok-free.ensures.ok_part) in
    omega arith

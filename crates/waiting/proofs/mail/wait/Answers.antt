-- A sender that stayed is not in the table.
use Rattle.std.proofs.Common.{rules}
use Rattle.calls.specs.declared.call.Call.TheVariants.{Wait}
use Rattle.cells.specs.View.{cells}
use Rattle.rules.specs.State.{with_word}
use Rattle.waiting.proofs.Handed.{spread-still}
use Rattle.tables.proofs.Stands.{kept, spread-cells}
use Rattle.waiting.proofs.mail.wait.Goals as goal

pub release_sender-requires : goal.release_sender-requires
release_sender-requires c =
    let k = c.args.tables.now in
    spread-still c.in_ok-caller.caller (with_word c.word-message.result) k.tasks c.give_word.new.self c.args.cell _ (cells k.cells) (cells c.put_word.new.self)
    c.give_word.ensures c.put_word.ensures.cells (spread-cells k)

pub invariant_of-tables : goal.invariant_of-tables
invariant_of-tables c = record { stands = kept c.args.tables.now (Wait c.args.cell) c.ranges.cell.fits (search rules) (search rules) }

-- The running task, if there is one, is linked first.
use Rattle.std.proofs.Common.{sym, ◌∙◌}
use Rattle.tasks.proofs.Cases.{turn-none, turn-some}
use Rattle.tasks.proofs.Tasks.turn.Goals as goal
use Rattle.tasks.proofs.Tasks.turn.Goals.{in-Some, in_default}

pub link-requires : goal.link-requires
link-requires c = c.stop.ensures.left c.in-Some.caller (sym c.in-Some.ensures)

pub returns : goal.returns
returns c =
    let a = c.args.self.now in
    c.choose.ensures ∙ elim c.match-running.branch [
      | in-Some w ↦ let e = turn-some a w.in-Some.caller (sym w.in-Some.ensures) in let x = w.self-is in let y = w.link.ensures in let z = w.stop.ensures.table in cc
      | in_default w ↦ let e = turn-none a (sym w.in_default.ensures) in let x = w.self-is in cc
    ]

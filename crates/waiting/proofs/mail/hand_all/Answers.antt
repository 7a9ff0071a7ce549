-- Each receiver is nowhere in the table while its wait ends.
use Rattle.std.proofs.Common.{◌∙◌}
use Rattle.cells.specs.View.{cells}
use Rattle.rules.specs.Records.{waiters}
use Rattle.waiting.proofs.Handed.{away, handing-more}
use Rattle.waiting.proofs.mail.hand_all.Goals as goal

pub hand-requires : goal.hand-requires
hand-requires c =
    let l = c.loop-receiver in
    away c.in-Some.receiver l.tasks (waiters (cells l.cells).waits) (waiters (cells c.take_first_at.new.self).waits) l.invariant.0.spread c.in-Some.ensures.laws.counts

pub loop-receiver-preserved : goal.loop-receiver-preserved
loop-receiver-preserved c =
    let l = c.loop-receiver in let k = c.in-Some.ensures in (
      handing-more l.invariant.0 k.cells k.laws c.hand.ensures,
      k.room ∙ l.invariant.1,
    )

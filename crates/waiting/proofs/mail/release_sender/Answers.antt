-- The sender is nowhere in the table while its wait ends.
use Rattle.cells.specs.View.{cells}
use Rattle.rules.specs.Records.{waiters}
use Rattle.waiting.proofs.Handed.{away}
use Rattle.waiting.proofs.mail.release_sender.Goals as goal

pub release-requires : goal.release-requires
release-requires c =
    away c.in-Some.sender c.args.tasks.now (waiters (cells c.args.cells.now).waits) (waiters (cells c.take_first_at.new.self).waits) c.requires c.in-Some.ensures.laws.counts

-- A task waits at any unit if it is in one of the queues.
use Rattle.std.proofs.Common.{◌∙◌}
use Rattle.queues.proofs.Everywhere.{at_any}
use Rattle.queues.proofs.four.Queues.is_asking.Goals as goal

pub returns : goal.returns
returns c = c.any_asking.ensures ∙ at_any c.args.t c.args.self.now.at

-- The tasks on the line are those that wait at the unit.
use Rattle.std.proofs.Common.{sym, ap, ◌∙◌}
use Rattle.chain.specs.Lists.{has}
use Rattle.queues.proofs.Requests.{askers_are}
use Rattle.queues.proofs.Queue.is_asking.Goals as goal

pub returns : goal.returns
returns c = c.is_on.ensures ∙ sym (ap (has c.args.t) (askers_are c.args.self.now))

-- The tasks on the line are those that wait.
use Rattle.std.proofs.Common.{sym, ap, ◌∙◌}
use Rattle.chain.specs.Lists.{has}
use Rattle.clock.proofs.Sleeps.{sleepers_are}
use Rattle.clock.proofs.ClockWaits.is_sleeping.Goals as goal

pub returns : goal.returns
returns c = c.is_on.ensures ∙ sym (ap (has c.args.t) (sleepers_are c.args.self.now.line))

-- For callers: how many tasks wait for a due tick.
use Rattle.std.proofs.Common.{◌≤◌, length, sym, subst}
use Rattle.line.proofs.Lines.{line-few}
use Rattle.rules.specs.Records.{sleepers}
use Rattle.clock.specs.declared.ClockWaits.{ClockWaits}
use Rattle.clock.specs.View.{room, sleeping}
use Rattle.clock.proofs.Sleeps.{sleepers_are}

pub sleepers-few : (x : ClockWaits) → length (sleepers (sleeping x)) ≤ room x
sleepers-few x = subst (λ ts. length ts ≤ room x) (sym (sleepers_are x.line)) (line-few x.line)

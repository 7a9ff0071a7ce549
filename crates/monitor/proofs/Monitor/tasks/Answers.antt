-- The tables tell it, whatever the units are, and stand at every moment.
use Rattle.std.proofs.Common.{[], refl}
use Rattle.tables.proofs.Stands.{standing}
use Rattle.monitor.proofs.Monitor.tasks.Goals as goal

pub returns : goal.returns
returns g c = rw (← c.self.view_is) (record { told = c.count.ensures []; few = c.self.inside.tables.stands.few; stands = standing c.self.inside.tables _ refl })

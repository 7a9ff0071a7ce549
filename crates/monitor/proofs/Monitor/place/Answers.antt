-- The tables tell it, whatever the units are, and its records are at one place each.
use Rattle.std.proofs.Common.{[]}
use Rattle.tables.proofs.Stands.{one_place}
use Rattle.monitor.proofs.Monitor.place.Goals as goal

pub returns : goal.returns
returns g c = rw (← c.self.view_is) (record { told = c.place.ensures []; once = one_place c.self.inside.tables })

-- The tables begin as the rules do, over any units.
use Rattle.monitor.specs.View.{media}
use Rattle.monitor.proofs.Monitor.start.Goals as goal

pub returns : goal.returns
returns g c = cc (c.in-Ok.ensures.begins (media g.A.Unit g.B.Unit g.C.Unit g.D.Unit c.args.units))

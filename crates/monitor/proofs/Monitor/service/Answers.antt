-- The unit that is served is the one with the number.
use Rattle.std.proofs.Common.{refl}
use Rattle.monitor.specs.View.{media}
use Rattle.monitor.proofs.Served.{served}
use Rattle.monitor.proofs.Monitor.service.Goals as goal

pub returns-in-Unit0 : goal.returns-in-Unit0
returns-in-Unit0 g c = rw (← c.self.view_is) (served c.args.unit (media g.A.Unit g.B.Unit g.C.Unit g.D.Unit c.self.inside.units) c.in_ok-try_from.ensures c.in-Unit0.is refl refl c.serve.ensures)

pub returns-in-Unit1 : goal.returns-in-Unit1
returns-in-Unit1 g c = rw (← c.self.view_is) (served c.args.unit (media g.A.Unit g.B.Unit g.C.Unit g.D.Unit c.self.inside.units) c.in_ok-try_from.ensures c.in-Unit1.is refl refl c.serve-in-Unit1.ensures)

pub returns-in-Unit2 : goal.returns-in-Unit2
returns-in-Unit2 g c = rw (← c.self.view_is) (served c.args.unit (media g.A.Unit g.B.Unit g.C.Unit g.D.Unit c.self.inside.units) c.in_ok-try_from.ensures c.in-Unit2.is refl refl c.serve-in-Unit2.ensures)

pub returns-in-Unit3 : goal.returns-in-Unit3
returns-in-Unit3 g c = rw (← c.self.view_is) (served c.args.unit (media g.A.Unit g.B.Unit g.C.Unit g.D.Unit c.self.inside.units) c.in_ok-try_from.ensures c.in-Unit3.is refl refl c.serve-in-Unit3.ensures)

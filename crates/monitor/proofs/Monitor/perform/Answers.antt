-- The run begins with the start of the rules.
use Rattle.std.proofs.Common.{refl}
use Rattle.generation.specs.Answers.{sealed_rate, sealed_tasks, ticks}
use Rattle.monitor.specs.View.{media}
use Rattle.monitor.proofs.Played.{performed}
use Rattle.monitor.proofs.Monitor.perform.Goals as goal

pub returns : goal.returns
returns g c =
    let e = c.make_all.ensures in
    performed (record {
      tasks = sealed_tasks c.args.sealed;
      timed = ticks (sealed_rate c.args.sealed);
      units = media g.A.Unit g.B.Unit g.C.Unit g.D.Unit c.args.units;
      some = c.args.sealed.kept.some;
      four = refl;
      is = refl;
    }) c.in_ok-monitor.ensures e.state (rw (e.answers, c.in-Ok.ensures.items)) e.lawful

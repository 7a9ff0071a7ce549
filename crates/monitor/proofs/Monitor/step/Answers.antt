-- The laws of a run with one step more.
use Rattle.calls.specs.Calls.{call_with}
use Rattle.rules.proofs.Together.{laws-step}
use Rattle.monitor.proofs.Monitor.step.Goals as goal

pub returns-clause-laws : goal.returns-clause-laws
returns-clause-laws g c start past h oks r =
    let e = c.make.ensures in
    laws-step start past (call_with (λ t. t.now) c.args.step) c.args.self.now c.make.new.self e.lawful e.made.state h oks r

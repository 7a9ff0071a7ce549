use Rattle.rules.proofs.Samples.{trials}
use Rattle.rules.proofs.trial_runs.Goals as goal

pub returns : goal.returns
returns c = trials

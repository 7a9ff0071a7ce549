use Rattle.rules.proofs.Sounds.{foremost_law}
use Rattle.rules.proofs.running_first_law.Goals as goal

pub returns : goal.returns
returns c = foremost_law

use Rattle.rules.proofs.Sounds.{soundness_law}
use Rattle.rules.proofs.soundness_law.Goals as goal

pub returns : goal.returns
returns c = soundness_law

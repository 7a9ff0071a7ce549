use Rattle.rules.proofs.Owed.{deadlines_law}
use Rattle.rules.proofs.deadlines_law.Goals as goal

pub returns : goal.returns
returns c = deadlines_law

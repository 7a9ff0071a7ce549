use Rattle.rules.proofs.Sounds.{places_law}
use Rattle.rules.proofs.ready_places_law.Goals as goal

pub returns : goal.returns
returns c = places_law

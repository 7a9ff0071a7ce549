use Rattle.rules.proofs.Together.{all_laws, fronts_too}
use Rattle.rules.proofs.all_laws.Goals as goal

pub returns : goal.returns
returns c = record { laws = all_laws; fronts = fronts_too }

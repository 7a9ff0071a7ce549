use Rattle.rules.proofs.Bytes.{units_law}
use Rattle.rules.proofs.unit_bytes_law.Goals as goal

pub returns : goal.returns
returns c = units_law

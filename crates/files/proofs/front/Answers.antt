-- What is left by the cut is at most as long as the cut.
use Rattle.std.proofs.Common.{arith}
use Rattle.files.proofs.front.Goals as goal

pub returns : goal.returns
returns g c = omega (arith, c.truncate.ensures.len)

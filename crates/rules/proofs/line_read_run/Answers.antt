use Rattle.rules.proofs.Samples.{line_read_lem}
use Rattle.rules.proofs.line_read_run.Goals as goal

pub returns : goal.returns
returns c = line_read_lem

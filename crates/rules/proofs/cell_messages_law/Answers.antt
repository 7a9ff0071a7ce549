use Rattle.rules.proofs.Messages.{cells_law}
use Rattle.rules.proofs.cell_messages_law.Goals as goal

pub returns : goal.returns
returns c = cells_law

-- Nobody is on a line that is new.
use Rattle.std.proofs.Common.{None, refl}
use Rattle.chain.specs.Chains.{nexts}
use Rattle.chain.proofs.Leads.{ends-none}
use Rattle.line.proofs.Lines.{waits_end}
use Rattle.line.proofs.Line.of.Goals as goal

pub invariant_of-result : goal.invariant_of-result
invariant_of-result g c = record { ends = ends-none (nexts c.in_ok-links.links) }

pub returns-clause-list : goal.returns-clause-list
returns-clause-list g c none = waits_end none c.in_ok-links.links None refl

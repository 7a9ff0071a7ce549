-- The number is unlinked where it is on the chain, and where it is not the chain is already without it.
use Rattle.std.proofs.Common.{sym, ◌∙◌}
use Rattle.chain.specs.Chains.{nexts}
use Rattle.chain.proofs.Orders.{taken-out-by}
use Rattle.chain.proofs.Leads.{chain-once}
use Rattle.chain.proofs.Writes.{out_of_none}
use Rattle.chain.proofs.Links.take_out.Goals as goal

pub returns-then-is_on-clause-laws : goal.returns-then-is_on-clause-laws
returns-then-is_on-clause-laws g c = taken-out-by c.args.i _ _ (chain-once (nexts c.args.self.now) c.args.head.now c.requires) c.unlink.ensures.links.list

pub returns-else-is_on-clause-links : goal.returns-else-is_on-clause-links
returns-else-is_on-clause-links g c = out_of_none (nexts c.args.self.now) c.args.head.now c.args.i c.requires (sym c.is_on.ensures ∙ c.if-is_on.false)

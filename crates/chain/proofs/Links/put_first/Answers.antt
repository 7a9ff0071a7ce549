-- A link that is on no touched chain leads to the old head, and is the new one.
use Rattle.chain.specs.Chains.{nexts}
use Rattle.chain.proofs.Writes.{put_first}
use Rattle.chain.proofs.Links.put_first.Goals as goal

pub returns-clause-links : goal.returns-clause-links
returns-clause-links g c = put_first (nexts c.args.self.now) c.args.head.now c.args.i c.requires.ends c.requires.within c.requires.fresh (nexts c.lead.new.self) c.lead.ensures.next

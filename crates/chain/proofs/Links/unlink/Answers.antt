-- A number at the head leaves by moving the head, any other by leading the one before it past it.
use Rattle.chain.specs.Chains.{nexts}
use Rattle.chain.proofs.Writes.{on-within, before-within, out_of_first, out_of_later}
use Rattle.chain.proofs.Links.unlink.Goals as goal

pub next_of-rest-requires : goal.next_of-rest-requires
next_of-rest-requires g c = on-within (nexts c.args.self.now) c.args.head.now c.args.i c.requires.ends c.requires.on

pub lead-requires : goal.lead-requires
lead-requires g c = before-within (nexts c.args.self.now) c.args.head.now c.args.i c.requires.ends c.requires.on c.next_of-rest.result c.next_of-rest.ensures c.in-Some.p c.in-Some.ensures

pub returns-in-None-clause-links : goal.returns-in-None-clause-links
returns-in-None-clause-links g c = out_of_first (nexts c.args.self.now) c.args.head.now c.args.i c.requires.ends c.requires.on c.next_of-rest.result c.next_of-rest.ensures c.in-None.ensures

pub returns-in-Some-clause-links : goal.returns-in-Some-clause-links
returns-in-Some-clause-links g c =
    out_of_later (nexts c.args.self.now) c.args.head.now c.args.i c.requires.ends c.requires.on c.next_of-rest.result c.next_of-rest.ensures
    c.in-Some.p c.in-Some.ensures (nexts c.lead.new.self) c.lead.ensures.next

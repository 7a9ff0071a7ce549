-- The number goes to the head where it ranks above all that stand first, and else behind the last that it does not rank above.
use Rattle.std.proofs.Common.{arith}
use Rattle.chain.specs.Lists.{rank_in}
use Rattle.chain.specs.Chains.{nexts, records}
use Rattle.chain.proofs.Orders.{linked-by}
use Rattle.chain.proofs.Writes.{joined-first, joined-behind, behind-within}
use Rattle.chain.proofs.Links.link_by_rank.Goals as goal

pub link_behind-requires : goal.link_behind-requires
link_behind-requires g c =
    let behind = behind-within (nexts c.args.self.now) c.args.head.now c.args.i c.requires.ends c.requires.within c.requires.fresh
    (rank_in g.R.Ranked.rank (records c.args.self.now)) c.in-Some.p c.in-Some.ensures in
    let within = c.requires.within in
    (omega arith, omega arith)

pub returns-in-None : goal.returns-in-None
returns-in-None g c =
    let by = rank_in g.R.Ranked.rank (records c.args.self.now) in
    let u = joined-first (nexts c.args.self.now) c.args.head.now c.args.i c.requires.ends c.requires.within c.requires.fresh by
    (nexts c.put_first.new.self) c.put_first.new.head c.in-None.ensures c.put_first.ensures.links in
    record { links = u; records = c.put_first.ensures.records; laws = linked-by by c.args.i _ _ c.requires.fresh u.list }

pub returns-in-Some : goal.returns-in-Some
returns-in-Some g c =
    let by = rank_in g.R.Ranked.rank (records c.args.self.now) in
    let u = joined-behind (nexts c.args.self.now) c.args.head.now c.args.i c.requires.ends c.requires.within c.requires.fresh by
    c.in-Some.p c.in-Some.ensures (nexts c.link_behind.new.self) c.link_behind.ensures.next in
    record { links = u; records = c.link_behind.ensures.records; laws = linked-by by c.args.i _ _ c.requires.fresh u.list }

-- The record is written, and its number linked by rank.
use Rattle.line.proofs.Lines.{waits-join}
use Rattle.line.proofs.Line.join.Goals as goal

pub returns-clause-list : goal.returns-clause-list
returns-clause-list g c none =
    let s = c.args.self.now in
    let p = c.replace in
    let u = c.link_by_rank in
    waits-join none s.links s.head p.new.self c.args.t c.args.wait c.requires.within p.ensures.next p.ensures.records
    g.R.Ranked.rank s.ends c.requires.fresh u.new.self u.new.head u.ensures.records u.ensures.links.list

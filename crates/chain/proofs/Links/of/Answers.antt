-- Every link that is made has the record, and leads nowhere.
use Rattle.chain.proofs.Tables.{all_alike}
use Rattle.chain.proofs.Links.of.Goals as goal

pub returns-clause-records : goal.returns-clause-records
returns-clause-records g c =
    let made = c.in_ok-links.ensures in
    all_alike (λ l. l.record) c.args.n c.in_ok-links.links.len _ c.in_ok-links.links.items c.resize.new.self.items made.items made.len c.in_ok-resize.ensures.items

pub returns-clause-nexts : goal.returns-clause-nexts
returns-clause-nexts g c =
    let made = c.in_ok-links.ensures in
    all_alike (λ l. l.next) c.args.n c.in_ok-links.links.len _ c.in_ok-links.links.items c.resize.new.self.items made.items made.len c.in_ok-resize.ensures.items

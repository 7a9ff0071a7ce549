-- One record is written, and no link leads elsewhere.
use Rattle.std.proofs.Common.{vec_items, ap}
use lib.Seq.{map-set, map-set_same}
use Rattle.chain.proofs.Links.replace.Goals as goal

pub returns-clause-next : goal.returns-clause-next
returns-clause-next g c = map-set_same (λ l. l.next) (vec_items c.args.self.now.links) c.args.k _ _ (ap (λ l. l.next) c.index_mut.ensures.value)

pub returns-clause-records : goal.returns-clause-records
returns-clause-records g c = map-set (λ l. l.record) (vec_items c.args.self.now.links) c.args.k _

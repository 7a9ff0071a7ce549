-- One link is led elsewhere, and no record is written.
use Rattle.std.proofs.Common.{vec_items, ap}
use lib.Seq.{map-set, map-set_same}
use Rattle.chain.proofs.Links.lead.Goals as goal

pub returns-clause-next : goal.returns-clause-next
returns-clause-next g c = map-set (λ l. l.next) (vec_items c.args.self.now.links) c.args.from _

pub returns-clause-records : goal.returns-clause-records
returns-clause-records g c = map-set_same (λ l. l.record) (vec_items c.args.self.now.links) c.args.from _ _ (ap (λ l. l.record) c.index_mut.ensures.value)

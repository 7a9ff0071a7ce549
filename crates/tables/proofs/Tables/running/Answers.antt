-- There are at most 64 records.
use Rattle.std.proofs.Common.{sym, ◌∙◌, arith}
use Rattle.tables.proofs.Stands.{caller}
use Rattle.tables.proofs.Tables.running.Goals as goal

pub map-requires : goal.map-requires
map-requires c x e d r =
    let h = caller c.args.self.now x (sym e ∙ c.running.ensures) in
    let w = h.within in
    let f = c.args.self.now.stands.few in
    omega arith

-- The new parts stand for the table at the start.
use Rattle.std.proofs.Common.{length, None, ap, ◌∙◌}
use lib.ListN.{length-replicate}
use Rattle.tasks.proofs.Tables.{begun}
use Rattle.tasks.proofs.Tasks.of.Goals as goal

pub invariant_of-result : goal.invariant_of-result
invariant_of-result c =
    let u = c.link_all_but_first-free in
    let k = c.in_ok-links.ensures in
    (begun u.new.self u.result c.args.n _ c.new.result c.requires (ap length k.nexts ∙ length-replicate c.args.n None) c.new.ensures (u.ensures.records ∙ k.records) u.ensures.links.ends u.ensures.links.list).kept

pub returns : goal.returns
returns c =
    let u = c.link_all_but_first-free in
    let k = c.in_ok-links.ensures in
    (begun u.new.self u.result c.args.n _ c.new.result c.requires (ap length k.nexts ∙ length-replicate c.args.n None) c.new.ensures (u.ensures.records ∙ k.records) u.ensures.links.ends u.ensures.links.list).is

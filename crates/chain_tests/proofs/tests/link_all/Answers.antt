-- Linking number i leaves those behind it unlinked.
use Rattle.std.proofs.Common.{length, refl, ap, ◌∙◌}
use Rattle.chain.specs.Lists.{has, rank_in}
use Rattle.chain.specs.Chains.{nexts, records}
use Rattle.chain.proofs.Leads.{chain-none, ends-none}
use Rattle.chain_tests.proofs.Moves.{later-fresh}
use Rattle.chain_tests.proofs.tests.link_all.Goals as goal

pub loop-i-init : goal.loop-i-init
loop-i-init g c = let ns = nexts c.args.links.now in record { ends = ends-none ns; size = refl; later = λ k l. ap (has k) (chain-none ns) }

pub loop-i-preserved : goal.loop-i-preserved
loop-i-preserved g c =
    let l = c.loop-i in
    let u = c.link_by_rank.ensures.links in
    let e = c.replace.ensures.next in record {
      ends = u.ends;
      size = u.size ∙ ap length e ∙ l.invariant.size;
      later = later-fresh (nexts l.links) (nexts c.replace.new.self) (nexts c.link_by_rank.new.self) l.head c.link_by_rank.new.head l.i l.invariant.later e
          (rank_in g.R.Ranked.rank (records c.replace.new.self)) u.list;
    }

-- Each number goes to the head before all above it.
use Rattle.std.proofs.Common.{◌-◌, length, None, sym, refl, ◌∙◌, subst, arith}
use Rattle.chain.specs.Lists.{rising}
use Rattle.chain.specs.Chains.{Relinked, nexts}
use Rattle.chain.proofs.Writes.{rising-fresh, rising_none, rising-put}
use Rattle.chain.proofs.Links.link_all_but_first.Goals as goal

pub loop-i-init : goal.loop-i-init
loop-i-init g c =
    let ns = nexts c.args.self.now in
    let n = length ns in
    record {
      links = subst (λ i. Relinked ns ns None (rising i (n - i)) (rising i (n - i))) (sym c.len-i.ensures) (rising_none ns n);
      records = refl;
      past = omega arith;
    }

pub put_first-requires-clause-fresh : goal.put_first-requires-clause-fresh
put_first-requires-clause-fresh g c = let l = c.loop-i in rising-fresh (nexts l.self) l.head (l.i - 1) l.i _ (omega arith) l.invariant.links.list

pub loop-i-preserved : goal.loop-i-preserved
loop-i-preserved g c =
    let l = c.loop-i in
    let v = c.put_first.ensures in
    let ns = nexts c.args.self.now in
    record {
      links = rising-put ns (nexts l.self) (nexts c.put_first.new.self) l.head c.put_first.new.head (length ns) (l.i - 1) l.i (omega arith) (omega arith) l.invariant.links v.links;
      records = v.records ∙ l.invariant.records;
      past = omega arith;
    }

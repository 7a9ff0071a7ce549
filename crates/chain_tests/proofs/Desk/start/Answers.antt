-- The first free number is not ready, since each number stands in the two chains once at most.
use Rattle.std.proofs.Common.{sym, ap, ◌∙◌, arith}
use Rattle.chain.specs.Lists.{count}
use Rattle.chain.specs.Chains.{chain, nexts}
use Rattle.chain.proofs.Members.{count_none, first-has, some-count}
use Rattle.chain.proofs.Writes.{on-within}
use Rattle.chain_tests.proofs.Moves.{left-kept, spread-still}
use Rattle.chain_tests.proofs.Desk.start.Goals as goal

pub link_by_rank-requires-clause-within : goal.link_by_rank-requires-clause-within
link_by_rank-requires-clause-within g c =
    let d = c.args.self.now in
    let ns = nexts d.links in on-within ns d.free c.in_ok-i.i d.frees (first-has c.in_ok-i.i (chain ns d.free) (sym c.in_ok-i.ensures.first))

pub link_by_rank-requires-clause-fresh : goal.link_by_rank-requires-clause-fresh
link_by_rank-requires-clause-fresh g c =
    let d = c.args.self.now in
    let ns = nexts d.links in
    let i = c.in_ok-i.i in
    let on = some-count i (chain ns d.free) (first-has i (chain ns d.free) (sym c.in_ok-i.ensures.first)) in count_none i (chain ns d.ready) (omega (arith, d.spread i))

pub invariant_of-self-2 : goal.invariant_of-self-2
invariant_of-self-2 g c =
    let d = c.args.self.now in
    let t = c.in_ok-i.ensures in
    let u = c.link_by_rank.ensures in
    let kept = left-kept (nexts d.links) d.free c.take_first.new.head d.ready c.in_ok-i.i d.spread t.first t.rest (nexts c.link_by_rank.new.self) c.link_by_rank.new.head _ t.ends u.links in
    let few = spread-still (nexts d.links) d.free c.take_first.new.head d.ready c.in_ok-i.i d.spread t.first t.rest in
    record { frees = kept.0; readies = u.links.ends; spread = λ k. let a = ap (count k) kept.1 in omega (arith, few k, u.laws.counts k) }

pub returns-clause-rest : goal.returns-clause-rest
returns-clause-rest g c =
    let d = c.args.self.now in
    let t = c.in_ok-i.ensures in
    let u = c.link_by_rank.ensures in
    let kept = left-kept (nexts d.links) d.free c.take_first.new.head d.ready c.in_ok-i.i d.spread t.first t.rest (nexts c.link_by_rank.new.self) c.link_by_rank.new.head _ t.ends u.links in
    kept.1 ∙ t.rest

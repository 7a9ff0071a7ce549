-- The last number before the walk comes to one that i ranks above.
use Rattle.std.proofs.Common.{nat_lt, not, rules}
use borrow.Author.Tests.{tests}
use Rattle.std.proofs.lemmas.Iterator.Adapters.{serves_from_places}
use Rattle.std.proofs.lemmas.Iterator.Consumers.{YieldsList-at}
use Rattle.std.proofs.lemmas.Iterator.Search.{YieldsList-from_take_while}
use Rattle.chain.specs.Chains.{chain, nexts, records}
use Rattle.chain.specs.Lists.{rank_in}
use Rattle.chain.proofs.Walks.{last-before, place-within, walks}
use Rattle.chain.proofs.Links.last_above.Goals as goal

pub last-requires-clause-can : goal.last-requires-clause-can
last-requires-clause-can g c = (
  tt,
  serves_from_places (YieldsList-at c.take_while.ensures.source (walks c.numbers.result _ c.numbers.ensures)) (λ x q k. search (rules, tests))
      (λ x k l is. let b = place-within (nexts c.args.self.now) c.args.head c.requires.ends k x l is in search (rules, tests, b)),
)

pub returns : goal.returns
returns g c =
    let by = rank_in g.R.Ranked.rank (records c.args.self.now) in
    let road = YieldsList-at c.take_while.ensures.source (walks c.numbers.result (chain (nexts c.args.self.now) c.args.head) c.numbers.ensures) in
    last-before (chain (nexts c.args.self.now) c.args.head) (λ k. nat_lt (by c.args.i) (by k)) c.last.result c.last.ensures.ran
    (YieldsList-from_take_while _ (λ k. not (nat_lt (by c.args.i) (by k))) road c.take_while.ensures.closure c.take_while.ensures.done (λ x b q k. search (rules, tests)))

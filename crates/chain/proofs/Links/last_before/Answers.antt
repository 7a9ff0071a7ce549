-- The last number before the walk comes to i.
use Rattle.std.proofs.Common.{◌==◌, not, rules}
use borrow.Author.Tests.{tests}
use Rattle.std.proofs.lemmas.Iterator.Consumers.{YieldsList-at}
use Rattle.std.proofs.lemmas.Iterator.Search.{YieldsList-from_take_while}
use Rattle.chain.specs.Chains.{chain, nexts}
use Rattle.chain.proofs.Walks.{last-before, walks}
use Rattle.chain.proofs.Links.last_before.Goals as goal

pub returns : goal.returns
returns g c =
    let road = YieldsList-at c.take_while.ensures.source (walks c.numbers.result (chain (nexts c.args.self.now) c.args.head) c.numbers.ensures) in
    last-before (chain (nexts c.args.self.now) c.args.head) (λ k. k == c.args.i) c.last.result c.last.ensures.ran
    (YieldsList-from_take_while _ (λ k. not (k == c.args.i)) road c.take_while.ensures.closure c.take_while.ensures.done (λ x b q k. search (rules, tests)))

-- The first number that passes is i, if there is one.
use Rattle.std.proofs.Common.{◌==◌, ◌∙◌, rules}
use borrow.Author.Tests.{tests}
use Rattle.std.proofs.lemmas.Iterator.Search.{any_from_yields_List}
use Rattle.chain.specs.Chains.{chain, nexts}
use Rattle.chain.proofs.Walks.{any-has, walks}
use Rattle.chain.proofs.Links.is_on.Goals as goal

pub returns : goal.returns
returns g c =
    any_from_yields_List (λ k. k == c.args.i) c.any.new.self _ _ c.any.ensures.ran (walks c.numbers.result _ c.numbers.ensures) (λ x b q k. search (rules, tests))
    ∙ any-has c.args.i (chain (nexts c.args.self.now) c.args.head)

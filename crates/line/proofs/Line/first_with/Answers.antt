-- The first task that the walk finds whose wait has the key.
use Rattle.std.proofs.Common.{◌==◌, get_or, sym, ◌∙◌, rules}
use borrow.Author.Tests.{tests}
use Rattle.std.proofs.lemmas.Iterator.Adapters.{option_map_id, serves_from_places}
use Rattle.std.proofs.lemmas.Iterator.Search.{find_from_yields_List}
use Rattle.chain.specs.Chains.{nexts, records}
use Rattle.chain.proofs.Walks.{place-within, walks}
use Rattle.line.proofs.Lines.{with-found}
use Rattle.line.proofs.Line.first_with.Goals as goal

pub find-requires-clause-callable : goal.find-requires-clause-callable
find-requires-clause-callable g c =
    let s = c.args.self.now in
    serves_from_places (walks c.numbers.result _ c.numbers.ensures) (λ x q k. search (rules, tests))
    (λ x k l is. let b = place-within (nexts s.links) s.head s.ends k x l is in search (rules, tests, b))

pub returns : goal.returns
returns g c none =
    let s = c.args.self.now in
    let key = g.R.Keyed.key in
    sym (option_map_id c.find.result)
    ∙ find_from_yields_List (λ t. key (get_or (records s.links) t none) == c.args.key) c.find.new.self _ c.find.result c.find.ensures.ran (walks c.numbers.result _ c.numbers.ensures) (λ x b q k. search (rules, tests))
    ∙ with-found none s.links s.head key c.args.key

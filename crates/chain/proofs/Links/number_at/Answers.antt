-- The number at a place of the walk.
use Rattle.chain.proofs.Walks.{nth-first, walks}
use Rattle.chain.proofs.Links.number_at.Goals as goal

pub returns : goal.returns
returns g c = nth-first c.nth.result c.nth.new.self c.args.place c.nth.ensures.ran (walks c.numbers.result _ c.numbers.ensures)

-- What a desk means: its table and the lists of its two chains.
use Rattle.std.specs.Prelude.{ℕ, List, Some, None, Option}
use Rattle.chain.specs.declared.Links.{Links}
use Rattle.chain.specs.Lists.{join}
use Rattle.chain.specs.Chains.{chain, nexts}
use Rattle.chain_tests.specs.declared.Desk.{Desk}

abbrev pub table_of : {R : Type 0} → Desk R → Links R
table_of d = d.links

abbrev pub free_of : {R : Type 0} → Desk R → List ℕ
free_of d = chain (nexts d.links) d.free

abbrev pub ready_of : {R : Type 0} → Desk R → List ℕ
ready_of d = chain (nexts d.links) d.ready

-- the list with the number, if there is one, behind all of equal or higher rank
abbrev pub joined : (ℕ → ℕ) → Option ℕ → List ℕ → List ℕ
joined rank None xs = xs
joined rank (Some i) xs = join rank i xs

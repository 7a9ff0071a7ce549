-- What a walk along a chain has left.
use Rattle.std.specs.Prelude.{ℕ, List}
use Rattle.chain.specs.declared.Numbers.{Numbers}
use Rattle.chain.specs.Chains.{chain, nexts}

-- the numbers that are still to come
abbrev pub numbers_left : {R : Type 0} → Numbers R → List ℕ
numbers_left w = chain (nexts w.links.now) w.at

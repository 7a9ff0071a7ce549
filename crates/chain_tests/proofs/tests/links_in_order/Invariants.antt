-- The chain ends at every turn.
use Rattle.chain.specs.Chains.{Ends, nexts}
use Rattle.chain_tests.proofs.tests.links_in_order.Given as goal

abbrev pub invariant-loop-place : goal.invariant-loop-place
invariant-loop-place g l = Ends (nexts l.links) l.head

-- Numbers are linked one after another: those from i on are not on the chain yet.
use Rattle.std.proofs.Common.{◌≡◌, ℕ, ◌≤◌, false, length}
use Rattle.chain.specs.Lists.{has}
use Rattle.chain.specs.Chains.{Ends, chain, nexts}
use Rattle.chain_tests.proofs.tests.link_all.Given as goal

abbrev pub invariant-loop-i : goal.invariant-loop-i
invariant-loop-i g l = record {
  ends : Ends (nexts l.links) l.head;
  size : length (nexts l.links) ≡ length (nexts l.fn.links);
  later : (k : ℕ) → l.i ≤ k → has k (chain (nexts l.links) l.head) ≡ false;
}

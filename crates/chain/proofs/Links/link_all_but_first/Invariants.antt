-- The numbers from i on are linked in rising order, and all else is as it was.
use Rattle.std.proofs.Common.{◌≡◌, ◌+◌, ◌-◌, ◌≤◌, length}
use Rattle.chain.specs.Lists.{rising}
use Rattle.chain.specs.Chains.{Relinked, nexts, records}
use Rattle.chain.proofs.Links.link_all_but_first.Given as goal

abbrev pub invariant-loop-i : goal.invariant-loop-i
invariant-loop-i g l =
    let ns = nexts l.initial.self in
    let xs = rising l.i (length ns - l.i) in
    record {
      links : Relinked ns (nexts l.self) l.head xs xs;
      records : records l.self ≡ records l.initial.self;
      past : length ns ≤ l.i + (length ns - 1);
    }

-- The calls before the rest of the words are made.
use Rattle.std.proofs.Common.{length}
use Rattle.host.specs.Run.{Makes}
use Rattle.host.proofs.run.Given as goal

abbrev pub invariant-loop-more : goal.invariant-loop-more
invariant-loop-more g l = Makes l.words l.rest l.initial.monitor l.monitor l.initial.answers l.answers l.calls l.written

abbrev pub decreases-loop-more : goal.decreases-loop-more
decreases-loop-more g l = length l.rest

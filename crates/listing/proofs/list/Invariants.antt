use Rattle.std.proofs.Common.{length}
use Rattle.listing.proofs.list.Given as goal

abbrev pub decreases-loop-after : goal.decreases-loop-after
decreases-loop-after g l = length l.rest

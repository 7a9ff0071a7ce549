-- What is left to copy comes to the whole copy.
use Rattle.std.proofs.Common.{◌≡◌, length}
use Rattle.unit.specs.Copying.{copied}
use Rattle.unit.proofs.copying.copy.Given as goal

abbrev pub invariant-loop-byte : goal.invariant-loop-byte
invariant-loop-byte g l = copied (g.S.Unit.medium l.source) (g.T.Unit.medium l.target) ≡ copied (g.S.Unit.medium l.initial.source) (g.T.Unit.medium l.initial.target)

abbrev pub decreases-loop-byte : goal.decreases-loop-byte
decreases-loop-byte g l = length (g.S.Unit.medium l.source).coming

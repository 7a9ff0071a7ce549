-- Each turn is a step of the copy.
use Rattle.std.proofs.Common.{sym, ◌∙◌}
use Rattle.unit.proofs.Copies.{step}
use Rattle.unit.proofs.copying.copy.Goals as goal

pub loop-byte-preserved : goal.loop-byte-preserved
loop-byte-preserved g c = step _ _ _ _ c.in-Ok.byte (sym c.in-Ok.ensures.told) (cc) c.give.ensures.medium c.take.ensures.medium ∙ c.loop-byte.invariant

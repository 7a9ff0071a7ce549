-- Rows of zero are blank.
use Rattle.std.proofs.Common.{arith}
use Rattle.needles.proofs.Filled.{new_blank, new_wide}
use Rattle.needles.proofs.NeedleBank.new.Goals as goal

pub invariant_of-result : goal.invariant_of-result
invariant_of-result c = record { within = omega arith; blank = new_blank 512; wide = new_wide 512 }

-- What the source gave is what there was room for, and one byte more.
use Rattle.std.proofs.Common.{◌++◌, refl, ap}
use Rattle.unit.proofs.Copies.{one_more}
use Rattle.unit.proofs.copying.copy_laws.Goals as goal

pub returns : goal.returns
returns c from to = (ap (λ bs. from.given ++ bs) (one_more to.room from.coming), refl)

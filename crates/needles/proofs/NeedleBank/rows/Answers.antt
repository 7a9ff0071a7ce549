-- Each row is the number of the bytes taken that stand in it.
use Rattle.std.proofs.Common.{◌≡◌, length, arith, rules}
use Rattle.needles.proofs.Filled.{row_is}
use Rattle.needles.proofs.NeedleBank.rows.Goals as goal

pub returns-clause-rows : goal.returns-clause-rows
returns-clause-rows c =
    let size : length c.args.self.now.rows ≡ 512 = search rules in
    λ k h. row_is c.args.self.now.rows c.args.self.now.count k (omega arith) c.args.self.now.blank c.args.self.now.wide

-- As many bytes are taken as the count says, since the rows have place for them.
use Rattle.std.proofs.Common.{◌≡◌, length, sym, arith, rules}
use Rattle.std.proofs.lemmas.List.{length-take-le}
use Rattle.needles.specs.Rows.{bytes_of}
use Rattle.needles.proofs.Bytes.{length-bytes}
use Rattle.needles.proofs.NeedleBank.count.Goals as goal

pub returns : goal.returns
returns c =
    let size : length c.args.self.now.rows ≡ 512 = search rules in
    sym (length-take-le c.args.self.now.count (bytes_of c.args.self.now.rows) (omega (arith, length-bytes c.args.self.now.rows)))

-- A byte taken is a byte of its row.
use Rattle.std.proofs.Common.{◌≡◌, ◌%◌, length, get_or, Some, sym, ap, ◌∙◌, arith, rules}
use Rattle.needles.specs.Rows.{row_bytes}
use Rattle.needles.proofs.Filled.{byte_taken}
use Rattle.needles.proofs.NeedleBank.taken_at.Goals as goal

pub returns : goal.returns
unfolding row_bytes
returns c =
    let size : length c.args.self.now.rows ≡ 512 = search rules in
    let e = byte_taken c.args.self.now.rows c.args.self.now.count c.args.at c.if-at-self.false (omega arith) in
    ap (λ bytes. Some (get_or bytes (c.args.at % 8) 0)) c.to_be_bytes-bytes.ensures ∙ sym e

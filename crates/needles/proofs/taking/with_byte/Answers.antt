-- A row taken apart, changed at one place and put together again.
use Rattle.std.proofs.Common.{ℕ, ◌<◌, List, set, ap, ◌∙◌, rules}
use Rattle.needles.specs.Rows.{row_bytes, row_of}
use Rattle.needles.proofs.Bytes.{byte_set}
use Rattle.needles.proofs.taking.with_byte.Goals as goal

pub returns : goal.returns
unfolding row_bytes
returns c =
    let hb : c.args.byte < 256 = search rules in
    let e = c.from_be_bytes.ensures in
    let t = c.to_be_bytes-bytes.ensures in
    let f : List ℕ → ℕ = λ xs. row_of (set xs c.args.place c.args.byte) 0 in
    byte_set c.args.row c.args.place c.args.byte c.from_be_bytes.result hb c.requires (e ∙ ap f t)

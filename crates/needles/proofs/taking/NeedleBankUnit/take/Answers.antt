-- The byte goes to the first blank place, and what is behind it stays blank.
use Rattle.std.proofs.Common.{◌≡◌, ℕ, ◌+◌, ◌-◌, ◌/◌, ◌<◌, List, length, sym, subst, arith, rules}
use Rattle.std.proofs.lemmas.List.{take_more_set}
use Rattle.unit.specs.Medium.{full_room}
use Rattle.unit.proofs.Meaning.{fits_one}
use Rattle.needles.specs.Rows.{bytes_of}
use Rattle.needles.proofs.Bytes.{length-bytes}
use Rattle.needles.proofs.Filled.{BlankFrom, put-blank, put_byte, put_wide}
use Rattle.needles.proofs.taking.NeedleBankUnit.take.Goals as goal

pub invariant_of-self : goal.invariant_of-self
invariant_of-self c =
    let rows : List ℕ = c.args.self.now.rows in
    let n : ℕ = c.args.self.now.count in
    let size : length rows ≡ 512 = search rules in
    let bytes = put_byte rows n c.args.byte c.with_byte.result (omega arith) c.with_byte.ensures in
    record {
      within = omega arith;
      blank = subst (BlankFrom (n + 1)) (sym bytes) (put-blank (bytes_of rows) n c.args.byte c.args.self.now.blank);
      wide = put_wide rows (n / 8) c.with_byte.result (omega arith) c.with_byte.type_inv c.args.self.now.wide;
    }

pub returns-clause-medium : goal.returns-clause-medium
returns-clause-medium c =
    let rows : List ℕ = c.args.self.now.rows in
    let n : ℕ = c.args.self.now.count in
    let size : length rows ≡ 512 = search rules in
    let room : 0 < full_room - n = omega arith in
    let bytes = put_byte rows n c.args.byte c.with_byte.result (omega arith) c.with_byte.ensures in
    let inside : n < length (bytes_of rows) = omega (arith, length-bytes rows) in
    let more = take_more_set (bytes_of rows) n c.args.byte inside in
    let one = fits_one (full_room - n) c.args.byte room in
    let left : full_room - (n + 1) ≡ full_room - n - 1 = omega arith in
    cc

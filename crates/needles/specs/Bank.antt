-- What the needle bank means.
use Rattle.std.specs.Prelude.{ℕ, ◌-◌, [], take}
use Rattle.unit.specs.Medium.{Medium, full_room}
use Rattle.needles.specs.Rows.{bytes_of}
use Rattle.needles.specs.declared.NeedleBank.{NeedleBank}

-- the device code of the needle bank: 40 octal
abbrev pub needle_code : ℕ
needle_code = 32

-- the needle bank gives nothing
abbrev pub bank_of : NeedleBank → Medium
bank_of b = record { taken = take b.count (bytes_of b.rows); given = []; coming = []; room = full_room - b.count; code = needle_code }

-- What each kind of tape unit means.
use Rattle.std.specs.Prelude.{ℕ, []}
use Rattle.unit.specs.Medium.{Medium}
use Rattle.tape.specs.Parts.{coming_of, given_of, room_of}
use Rattle.tape.specs.declared.reader.Reader.{Reader}
use Rattle.tape.specs.declared.punch.Punch.{Punch}
use Rattle.tape.specs.declared.console.Console.{Console}

-- of a tape or of keys, so many bytes are used
abbrev pub longest : ℕ
longest = 65536

-- the device codes of the kinds: 12, 13 and 11 octal
abbrev pub reader_code : ℕ
reader_code = 10

abbrev pub punch_code : ℕ
punch_code = 11

abbrev pub console_code : ℕ
console_code = 9

-- the reader takes nothing
abbrev pub reader_of : Reader → Medium
reader_of r = record { taken = []; given = given_of r.tape; coming = coming_of r.tape; room = 0; code = reader_code }

-- the punch gives nothing
abbrev pub punch_of : Punch → Medium
punch_of p = record { taken = p.tape; given = []; coming = []; room = room_of p.tape; code = punch_code }

-- the console takes what it prints and gives what is keyed
abbrev pub console_of : Console → Medium
console_of c = record { taken = c.paper; given = given_of c.keys; coming = coming_of c.keys; room = room_of c.paper; code = console_code }

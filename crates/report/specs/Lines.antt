-- The text lines of a run's report.
use Rattle.std.specs.Prelude.{ℕ, ◌+◌, ◌/◌, ◌%◌, if◌then◌else◌, List, [], ◌∷◌, ◌++◌, codes, decimal, nat_lt}
use Rattle.std.specs.List.{flat_map}
use Rattle.words.specs.Heads.{word_bytes}

-- the character of a hexadecimal digit: 0 to 9, then A to F
abbrev pub hex_digit : ℕ → ℕ
hex_digit d = if nat_lt d 10 then 48 + d else 55 + d

-- the two digits of a byte
abbrev pub hex_byte : ℕ → List ℕ
hex_byte b = hex_digit (b / 16) ∷ hex_digit (b % 16) ∷ []

-- a word's line: its eight digits and byte 10
abbrev pub word_line : ℕ → List ℕ
word_line w = flat_map hex_byte (word_bytes w) ++ 10 ∷ []

-- the last line: the calls done and a stop's number in decimal, with single spaces, and byte 10
abbrev pub end_text : ℕ → ℕ → List ℕ
end_text calls number = codes "end " ++ (decimal calls ++ (codes " " ++ (decimal number ++ codes "\n")))

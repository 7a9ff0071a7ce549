-- Rows of eight bytes, each kept as one number.
use Rattle.std.specs.Prelude.{ℕ, ◌+◌, ◌*◌, ◌/◌, ◌%◌, ◌^◌, List, [], ◌∷◌, ◌++◌, slice_index}

-- so many rows of eight bytes make up the room
abbrev pub row_count : ℕ
row_count = 512

-- the number of row k of some bytes: the first byte of the row highest, and zero for each byte that is not there
abbrev pub row_of : List ℕ → ℕ → ℕ
row_of bytes k =
    slice_index bytes (k * 8) * 256 ^ 7 + slice_index bytes (k * 8 + 1) * 256 ^ 6 + slice_index bytes (k * 8 + 2) * 256 ^ 5 + slice_index bytes (k * 8 + 3) * 256 ^ 4
    + slice_index bytes (k * 8 + 4) * 256 ^ 3
    + slice_index bytes (k * 8 + 5) * 256 ^ 2
    + slice_index bytes (k * 8 + 6) * 256
    + slice_index bytes (k * 8 + 7)

-- the eight bytes of a row
unfoldable pub row_bytes : ℕ → List ℕ
row_bytes w = w / 256 ^ 7 % 256 ∷ w / 256 ^ 6 % 256 ∷ w / 256 ^ 5 % 256 ∷ w / 256 ^ 4 % 256 ∷ w / 256 ^ 3 % 256 ∷ w / 256 ^ 2 % 256 ∷ w / 256 % 256 ∷ w % 256 ∷ []

-- the bytes of some rows, in order
unfoldable pub bytes_of : List ℕ → List ℕ
bytes_of [] = []
bytes_of (w ∷ ws) = row_bytes w ++ bytes_of ws

-- One row and its eight bytes, and the bytes of all the rows.
use Rattle.std.proofs.Common.{◌≡◌, ℕ, zero, suc, ◌+◌, ◌-◌, ◌*◌, ◌/◌, ◌%◌, ◌^◌, ◌<◌, List, [], ◌∷◌, length, get_or, set, refl, ◌∙◌, ⊎_elim, le_of_suc-le-suc, not-suc-le-zero, arith, length-append, length-set}
use Rattle.std.proofs.lemmas.List.{set-append_left, set-append_right, get_or-set_same, get_or-set_other, drop_more, drop_all}
use Rattle.std.proofs.lemmas.Bool.{cases_eq}
use Rattle.needles.specs.Rows.{row_bytes, bytes_of, row_of}

pub length_row : (w : ℕ) → length (row_bytes w) ≡ 8
unfolding row_bytes
length_row w = refl

-- every byte of a row is below 256
row_below : (w k : ℕ) → k < 8 → get_or (row_bytes w) k 0 < 256
unfolding row_bytes
row_below w zero h = omega arith
row_below w (suc zero) h = omega arith
row_below w (suc (suc zero)) h = omega arith
row_below w (suc (suc (suc zero))) h = omega arith
row_below w (suc (suc (suc (suc zero)))) h = omega arith
row_below w (suc (suc (suc (suc (suc zero))))) h = omega arith
row_below w (suc (suc (suc (suc (suc (suc zero)))))) h = omega arith
row_below w (suc (suc (suc (suc (suc (suc (suc zero))))))) h = omega arith
row_below w (suc (suc (suc (suc (suc (suc (suc (suc k)))))))) h = absurd (omega arith)

-- the bytes of the number that eight bytes make are those bytes
bytes_of_number : (xs : List ℕ) → length xs ≡ 8 → ((k : ℕ) → k < 8 → get_or xs k 0 < 256) → row_bytes (row_of xs 0) ≡ xs
unfolding row_bytes
bytes_of_number xs e h =
    let b0 = h 0 (omega arith) in
    let b1 = h 1 (omega arith) in
    let b2 = h 2 (omega arith) in
    let b3 = h 3 (omega arith) in
    let b4 = h 4 (omega arith) in
    let b5 = h 5 (omega arith) in
    let b6 = h 6 (omega arith) in
    let b7 = h 7 (omega arith) in
    let w : ℕ = row_of xs 0 in
    let p0 : w / 256 ^ 7 % 256 ≡ get_or xs 0 0 = omega arith in
    let p1 : w / 256 ^ 6 % 256 ≡ get_or xs 1 0 = omega arith in
    let p2 : w / 256 ^ 5 % 256 ≡ get_or xs 2 0 = omega arith in
    let p3 : w / 256 ^ 4 % 256 ≡ get_or xs 3 0 = omega arith in
    let p4 : w / 256 ^ 3 % 256 ≡ get_or xs 4 0 = omega arith in
    let p5 : w / 256 ^ 2 % 256 ≡ get_or xs 5 0 = omega arith in
    let p6 : w / 256 % 256 ≡ get_or xs 6 0 = omega arith in
    let p7 : w % 256 ≡ get_or xs 7 0 = omega arith in
    let d0 = drop_more xs 0 0 (omega arith) in
    let d1 = drop_more xs 1 0 (omega arith) in
    let d2 = drop_more xs 2 0 (omega arith) in
    let d3 = drop_more xs 3 0 (omega arith) in
    let d4 = drop_more xs 4 0 (omega arith) in
    let d5 = drop_more xs 5 0 (omega arith) in
    let d6 = drop_more xs 6 0 (omega arith) in
    let d7 = drop_more xs 7 0 (omega arith) in
    let d8 = drop_all 8 xs (omega arith) in
    cc

set_below : (w j b : ℕ) → b < 256 → j < 8 → (k : ℕ) → k < 8 → get_or (set (row_bytes w) j b) k 0 < 256
set_below w j b hb hj k hk =
    let l : j < length (row_bytes w) = omega (arith, length_row w) in
    ⊎_elim
    (λ (e : k ≡ j). rw e (omega (arith, get_or-set_same (row_bytes w) j b 0 l)))
    (λ (other : k ≡ j → ⊥). omega (arith, get_or-set_other (row_bytes w) j k b 0 other, row_below w k hk))
    (cases_eq k j)

-- a row made anew with another byte at place j
pub byte_set : (w j b r : ℕ) → b < 256 → j < 8 → r ≡ row_of (set (row_bytes w) j b) 0 → row_bytes r ≡ set (row_bytes w) j b
byte_set w j b r hb hj e =
    let n = bytes_of_number (set (row_bytes w) j b) (length-set (row_bytes w) j b ∙ length_row w) (set_below w j b hb hj) in
    cc

pub length-bytes : (rows : List ℕ) → length (bytes_of rows) ≡ length rows * 8
unfolding bytes_of
length-bytes [] = refl
length-bytes (r ∷ rs) =
    let i = length-bytes rs in
    let l = length_row r in
    simp length-append (omega arith)

-- byte j of row i is byte i * 8 + j of all
pub bytes-set : (rows : List ℕ) (i j b w : ℕ) → i < length rows → j < 8 → row_bytes w ≡ set (row_bytes (get_or rows i 0)) j b → bytes_of (set rows i w) ≡ set (bytes_of rows) (i * 8 + j) b
unfolding bytes_of
bytes-set [] i j b w hi hj e = absurd (not-suc-le-zero hi)
bytes-set (r ∷ rs) zero j b w hi hj e =
    let l : j < length (row_bytes r) = omega (arith, length_row r) in
    let z : 0 * 8 + j ≡ j = omega arith in
    let a = set-append_left (row_bytes r) (bytes_of rs) j b l in
    cc
bytes-set (r ∷ rs) (suc i) j b w hi hj e =
    let again = bytes-set rs i j b w (le_of_suc-le-suc hi) hj e in
    let a = set-append_right (row_bytes r) (bytes_of rs) 8 (suc i * 8 + j) b (length_row r) (omega arith) in
    let z : suc i * 8 + j - 8 ≡ i * 8 + j = omega arith in
    cc

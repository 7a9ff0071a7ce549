-- The bytes of all the rows: where each stands, which are blank, and which number each row is.
use Rattle.std.proofs.Common.{◌≡◌, ℕ, zero, suc, ◌+◌, ◌-◌, ◌*◌, ◌/◌, ◌%◌, ◌^◌, ◌<◌, ◌≤◌, List, [], ◌∷◌, length, get_or, take, drop, set, replicate, Some, sym, refl, ap, ◌∙◌, ⊎_elim, le_of_suc-le-suc, not-suc-le-zero, arith, length-take}
use Rattle.std.proofs.lemmas.List.{drop_more, get_or_append_left, get_or-append_right, get_or_past, get_or-replicate, get_or-set_same, get_or-set_other, get_or-take, length-replicate, replicate-append-replicate}
use Rattle.std.proofs.lemmas.Bool.{cases_eq, cases_lt}
use Rattle.unit.specs.Copying.{first_byte}
use Rattle.needles.specs.Rows.{row_bytes, bytes_of, row_of}
use Rattle.needles.proofs.Bytes.{bytes-set, length-bytes, length_row}

-- no byte from n on is filled
abbrev pub BlankFrom : ℕ → List ℕ → Type 0
BlankFrom n xs = (k : ℕ) → n ≤ k → get_or xs k 0 ≡ 0

-- every row is a 64-bit number
abbrev pub Wide : List ℕ → Type 0
Wide rows = (k : ℕ) → get_or rows k 0 < 2 ^ 64

get_d_zeros : (n k : ℕ) → get_or {A = ℕ} (replicate n 0) k 0 ≡ 0
get_d_zeros n k = ⊎_elim (λ h. get_or-replicate n k 0 0 h) (λ h. get_or_past (replicate n 0) k 0 (omega (arith, length-replicate {A = ℕ} n 0))) (cases_lt k n)

bytes_zeros : (n : ℕ) → bytes_of (replicate n 0) ≡ replicate (n * 8) 0
unfolding bytes_of row_bytes
bytes_zeros zero = refl
bytes_zeros (suc n) =
    let again = bytes_zeros n in
    let size : 8 + n * 8 ≡ suc n * 8 = omega arith in
    rw again (replicate-append-replicate 8 (n * 8) 0 ∙ ap (λ m. replicate m 0) size)

-- rows of zero are blank, and 64-bit numbers
pub new_blank : (n : ℕ) → BlankFrom 0 (bytes_of (replicate n 0))
new_blank n k h = ap (λ xs. get_or xs k 0) (bytes_zeros n) ∙ get_d_zeros (n * 8) k

pub new_wide : (n : ℕ) → Wide (replicate n 0)
new_wide n k = omega (arith, get_d_zeros n k)

-- a byte put into its row is put at its place among all bytes
pub put_byte : (rows : List ℕ) (n b w : ℕ) → n < length rows * 8 → row_bytes w ≡ set (row_bytes (get_or rows (n / 8) 0)) (n % 8) b → bytes_of (set rows (n / 8) w) ≡ set (bytes_of rows) n b
put_byte rows n b w h e =
    let place : n / 8 * 8 + n % 8 ≡ n = omega arith in
    bytes-set rows (n / 8) (n % 8) b w (omega arith) (omega arith) e ∙ ap (λ m. set (bytes_of rows) m b) place

-- a byte put at place n leaves what is behind it blank
pub put-blank : (xs : List ℕ) (n b : ℕ) → BlankFrom n xs → BlankFrom (n + 1) (set xs n b)
put-blank xs n b blank k h =
    let other : k ≡ n → ⊥ = λ e. omega arith in
    get_or-set_other xs n k b 0 other ∙ blank k (omega arith)

pub put_wide : (rows : List ℕ) (i w : ℕ) → i < length rows → w < 2 ^ 64 → Wide rows → Wide (set rows i w)
put_wide rows i w h small wide k =
    ⊎_elim
    (λ (e : k ≡ i). rw e (omega (arith, get_or-set_same rows i w 0 h)))
    (λ (other : k ≡ i → ⊥). omega (arith, get_or-set_other rows i k w 0 other, wide k))
    (cases_eq k i)

-- the bytes taken are those of the rows, and zero behind them
pub taken_byte : (xs : List ℕ) (n k : ℕ) → BlankFrom n xs → get_or (take n xs) k 0 ≡ get_or xs k 0
taken_byte xs n k blank =
    ⊎_elim
    (λ h. get_or-take n xs k 0 h)
    (λ h. get_or_past (take n xs) k 0 (omega (arith, length-take n xs)) ∙ sym (blank k h))
    (cases_lt k n)

-- byte j of row i
pub byte_of_row : (rows : List ℕ) (i j : ℕ) → i < length rows → j < 8 → get_or (bytes_of rows) (i * 8 + j) 0 ≡ get_or (row_bytes (get_or rows i 0)) j 0
unfolding bytes_of
byte_of_row [] i j hi hj = absurd (not-suc-le-zero hi)
byte_of_row (r ∷ rs) zero j hi hj =
    let at : 0 * 8 + j ≡ j = omega arith in
    rw at (get_or_append_left (row_bytes r) (bytes_of rs) 0 j (omega (arith, length_row r)))
byte_of_row (r ∷ rs) (suc i) j hi hj =
    let again = byte_of_row rs i j (le_of_suc-le-suc hi) hj in
    let at : suc i * 8 + j - 8 ≡ i * 8 + j = omega arith in
    get_or-append_right (row_bytes r) (bytes_of rs) 8 (suc i * 8 + j) 0 (length_row r) (omega arith) ∙ (ap (λ m. get_or (bytes_of rs) m 0) at ∙ again)

-- a 64-bit number is the number of its own bytes
number_of_bytes : (w : ℕ) → w < 2 ^ 64 → w ≡ row_of (row_bytes w) 0
unfolding row_bytes
number_of_bytes w h = omega arith

-- each row is the number of the bytes taken that stand in it
pub row_is : (rows : List ℕ) (n k : ℕ) → k < length rows → BlankFrom n (bytes_of rows) → Wide rows → get_or rows k 0 ≡ row_of (take n (bytes_of rows)) k
row_is rows n k h blank wide =
    let at : (j : ℕ) → j < 8 → get_or (take n (bytes_of rows)) (k * 8 + j) 0 ≡ get_or (row_bytes (get_or rows k 0)) j 0 = λ j small. taken_byte (bytes_of rows) n (k * 8 + j) blank ∙ byte_of_row rows k j h small in
    let first : get_or (take n (bytes_of rows)) (k * 8) 0 ≡ get_or (row_bytes (get_or rows k 0)) 0 0 = let z : k * 8 + 0 ≡ k * 8 = omega arith in ap (λ m. get_or (take n (bytes_of rows)) m 0) (sym z) ∙ at 0 (omega arith) in
    omega (arith, number_of_bytes (get_or rows k 0) (wide k), first, at 1 (omega arith), at 2 (omega arith), at 3 (omega arith), at 4 (omega arith), at 5 (omega arith), at 6 (omega arith), at 7 (omega arith))

-- the byte taken at a place
pub byte_taken : (rows : List ℕ) (n at : ℕ) → at < n → n ≤ length rows * 8 → first_byte (drop at (take n (bytes_of rows))) ≡ Some (get_or (row_bytes (get_or rows (at / 8) 0)) (at % 8) 0)
byte_taken rows n at h size =
    let xs : List ℕ = bytes_of rows in
    let place : at / 8 * 8 + at % 8 ≡ at = omega arith in
    let inside : at < length (take n xs) = omega (arith, length-take n xs, length-bytes rows) in
    let first : get_or (take n xs) at 0 ≡ get_or (row_bytes (get_or rows (at / 8) 0)) (at % 8) 0 = get_or-take n xs at 0 h ∙ (ap (λ m. get_or xs m 0) (sym place) ∙ byte_of_row rows (at / 8) (at % 8) (omega arith) (omega arith)) in
    ap first_byte (drop_more (take n xs) at 0 inside) ∙ ap (λ b. Some b) first

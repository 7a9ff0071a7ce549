-- The words in which chains are spoken of: lists of numbers, and of records that have a rank.
-- A smaller number ranks above. Nothing here names the code, so the rules of every crate can share it.
use Rattle.std.specs.Prelude.{ℕ, zero, suc, ◌+◌, Bool, true, false, if◌then◌else◌, ◌&&◌, ◌||◌, List, [], ◌∷◌, map, Some, None, Option, ◌==◌, nat_le, nat_lt, slice_index}

-- x goes behind all of equal or higher rank: before the first that ranks below it
abbrev pub join : {A : Type 0} → (A → ℕ) → A → List A → List A
join rank x [] = x ∷ []
join rank x (y ∷ ys) = if nat_lt (rank x) (rank y) then x ∷ y ∷ ys else y ∷ join rank x ys

-- the rank of the record with the number k
abbrev pub rank_in : {A : Type 0} → (A → ℕ) → List A → ℕ → ℕ
rank_in rank records k = slice_index (map rank records) k

-- the list without its first i
abbrev pub without : ℕ → List ℕ → List ℕ
without i [] = []
without i (x ∷ xs) = if x == i then xs else x ∷ without i xs

-- the first, if there is one
abbrev pub first : {A : Type 0} → List A → Option A
first [] = None
first (x ∷ xs) = Some x

-- all behind the first
abbrev pub rest : {A : Type 0} → List A → List A
rest [] = []
rest (x ∷ xs) = xs

-- whether i is in the list
abbrev pub has : ℕ → List ℕ → Bool
has i [] = false
has i (x ∷ xs) = x == i || has i xs

-- how often k stands in a list
abbrev pub one : ℕ → ℕ → ℕ
one k x = if k == x then 1 else 0

abbrev pub count : ℕ → List ℕ → ℕ
count k [] = 0
count k (x ∷ xs) = one k x + count k xs

-- the n numbers from a on
abbrev pub rising : ℕ → ℕ → List ℕ
rising a zero = []
rising a (suc n) = a ∷ rising (suc a) n

-- whether none of the list ranks above x
abbrev pub none_above : {A : Type 0} → (A → ℕ) → A → List A → Bool
none_above rank x [] = true
none_above rank x (y ∷ ys) = nat_le (rank x) (rank y) && none_above rank x ys

-- whether the list is sorted by rank: none ranks above one that stands before it
abbrev pub sorted : {A : Type 0} → (A → ℕ) → List A → Bool
sorted rank [] = true
sorted rank (x ∷ xs) = none_above rank x xs && sorted rank xs

-- whether y stands ahead of z
abbrev pub ahead : ℕ → ℕ → List ℕ → Bool
ahead y z [] = false
ahead y z (x ∷ xs) = (x == y && has z xs) || ahead y z xs

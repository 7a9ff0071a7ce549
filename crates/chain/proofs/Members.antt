-- Which numbers a list has, and how often.
use Rattle.std.proofs.Common.{◌≡◌, ℕ, zero, suc, ◌+◌, ◌≤◌, Bool, true, false, if◌then◌else◌, not, ◌&&◌, ◌||◌, ◌==◌, nat_lt, nat_le, ◌≢◌, List, [], ◌∷◌, Some, refl, arith}
use Rattle.std.proofs.lemmas.Bool.Decides.{nat_tests}
use Rattle.chain.specs.Lists.{count, first, has, join, one, rest, rising, without}
use Rattle.chain.specs.Chains.{Apart}

pub has-without : (k i : ℕ) (xs : List ℕ) → has k xs ≡ false → has k (without i xs) ≡ false
has-without k i [] h = refl
has-without k i (x ∷ xs) h = let r = has-without k i xs in grind (arith, nat_tests)

pub without-none : (i : ℕ) (xs : List ℕ) → has i xs ≡ false → without i xs ≡ xs
without-none i [] h = refl
without-none i (x ∷ xs) h = let r = without-none i xs in grind (arith, nat_tests)

pub count_none : (k : ℕ) (xs : List ℕ) → count k xs ≡ 0 → has k xs ≡ false
count_none k [] h = refl
count_none k (x ∷ xs) h = let r = count_none k xs in grind (arith, nat_tests)

pub none-count : (k : ℕ) (xs : List ℕ) → has k xs ≡ false → count k xs ≡ 0
none-count k [] h = refl
none-count k (x ∷ xs) h = let r = none-count k xs in grind (arith, nat_tests)

pub some-count : (k : ℕ) (xs : List ℕ) → has k xs ≡ true → 1 ≤ count k xs
some-count k [] h = grind (arith, nat_tests)
some-count k (x ∷ xs) h = let r = some-count k xs in grind (arith, nat_tests)

pub count-join : (rank : ℕ → ℕ) (k x : ℕ) (xs : List ℕ) → count k (join rank x xs) ≡ one k x + count k xs
count-join rank k x [] = refl
count-join rank k x (y ∷ ys) = let r = count-join rank k x ys in grind (arith, nat_tests)

pub count-without : (k i : ℕ) (xs : List ℕ) → has i xs ≡ true → one k i + count k (without i xs) ≡ count k xs
count-without k i [] h = grind (arith, nat_tests)
count-without k i (x ∷ xs) h = let r = count-without k i xs in grind (arith, nat_tests)

pub without-join : (rank : ℕ → ℕ) (x : ℕ) (xs : List ℕ) → has x xs ≡ false → without x (join rank x xs) ≡ xs
without-join rank x [] h = grind (arith, nat_tests)
without-join rank x (y ∷ ys) h = let r = without-join rank x ys in grind (arith, nat_tests)

pub has_join : (rank : ℕ → ℕ) (k x : ℕ) (xs : List ℕ) → has k (join rank x xs) ≡ (x == k || has k xs)
has_join rank k x [] = refl
has_join rank k x (y ∷ ys) = let r = has_join rank k x ys in grind (arith, nat_tests)

pub has-stays : (k i : ℕ) (xs : List ℕ) → k ≢ i → has k (without i xs) ≡ has k xs
has-stays k i [] n = refl
has-stays k i (x ∷ xs) n = let r = has-stays k i xs n in grind (arith, nat_tests)

-- where each number stands once
abbrev pub once : List ℕ → Bool
once [] = true
once (x ∷ xs) = not (has x xs) && once xs

pub has-gone : (i : ℕ) (xs : List ℕ) → once xs ≡ true → has i (without i xs) ≡ false
has-gone i [] o = refl
has-gone i (x ∷ xs) o = let r = has-gone i xs in grind (arith, nat_tests)

pub without_other : (k i : ℕ) (xs : List ℕ) → k ≢ i → count k (without i xs) ≡ count k xs
without_other k i [] n = refl
without_other k i (x ∷ xs) n = let r = without_other k i xs n in grind (arith, nat_tests)

pub first-has : (x : ℕ) (xs : List ℕ) → first xs ≡ Some x → has x xs ≡ true
first-has x [] f = grind (arith, nat_tests)
first-has x (y ∷ ys) f = let same : y ≡ x = cc in grind (arith, nat_tests)

pub first_count : (k x : ℕ) (xs : List ℕ) → first xs ≡ Some x → count k xs ≡ one k x + count k (rest xs)
first_count k x [] f = grind (arith, nat_tests)
first_count k x (y ∷ ys) f = let same : y ≡ x = cc in grind (arith, nat_tests)

-- lists that together have each number once at most share none
pub apart_from : (xs ys : List ℕ) → ((k : ℕ) → count k xs + count k ys ≤ 1) → Apart xs ys
apart_from xs ys few k on = count_none k ys (let a = some-count k xs on in omega (arith, few k))

-- the n numbers from a on stand there once each
pub count-rising : (k a n : ℕ) → count k (rising a n) ≡ (if nat_le a k && nat_lt k (a + n) then 1 else 0)
count-rising k a zero = grind (arith, nat_tests)
count-rising k a (suc n) = let r = count-rising k (suc a) n in grind (arith, nat_tests)

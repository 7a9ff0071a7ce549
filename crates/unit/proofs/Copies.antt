-- One step of a copy, after which what is left to copy comes to the same, and the byte left over.
use Rattle.std.proofs.Common.{◌≡◌, ℕ, zero, suc, ◌+◌, ◌-◌, false, List, [], ◌∷◌, ◌++◌, length, take, drop, is_err, Ok, refl, ap, add-one, arith}
use Rattle.std.proofs.lemmas.List.{append_assoc}
use Rattle.unit.specs.Medium.{Medium, after_give, after_take, told_give, told_take}
use Rattle.unit.specs.Copying.{copied, first_byte}
use Rattle.std.specs.Option.{option_to_list}
use Rattle.unit.proofs.Meaning.{fits_one, told-first, told-no-full}

step-at : (m n : Medium) (b : ℕ) (bs : List ℕ) (r : ℕ) → m.coming ≡ b ∷ bs → n.room ≡ suc r → copied (after_give m) (after_take b n) ≡ copied m n
step-at m n b bs r coming room =
    let less : suc r - 1 ≡ r = omega arith in
    let more : suc r + 1 ≡ suc (r + 1) = omega arith in
    let left : suc r - suc (length bs) ≡ r - length bs = omega arith in
    let one = fits_one (suc r) b (omega arith) in
    rw (coming, room) (simp (less, more, left, one, append_assoc))

-- a byte was given and taken
pub step : (m n m1 n1 : Medium) (b : ℕ) → told_give m ≡ Ok b → is_err (told_take n) ≡ false → m1 ≡ after_give m → n1 ≡ after_take b n → copied m1 n1 ≡ copied m n
step m n m1 n1 b gave took source target =
    let s = step-at m n b (drop 1 m.coming) (n.room - 1) (told-first m.coming b gave) (told-no-full n.room took) in
    rw (source, target) s

one-first : (r : ℕ) (cs : List ℕ) → take (suc r) cs ≡ take r cs ++ option_to_list (first_byte (drop r cs))
one-first zero [] = refl
one-first zero (c ∷ cs) = refl
one-first (suc r) [] = refl
one-first (suc r) (c ∷ cs) = ap (λ bs. c ∷ bs) (one-first r cs)

-- one byte more than there is room for is the byte left over
pub one_more : (r : ℕ) (cs : List ℕ) → take (r + 1) cs ≡ take r cs ++ option_to_list (first_byte (drop r cs))
one_more r cs = rw add-one (one-first r cs)

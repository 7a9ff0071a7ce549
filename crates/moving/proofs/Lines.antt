-- A text's line by the place of its first line end.
use Rattle.std.proofs.Common.{◌≡◌, ℕ, suc, ◌+◌, Bool, true, false, cond, not, ◌||◌, List, [], ◌∷◌, length, take, if◌then◌else◌, Some, None, refl, ap, ◌∙◌, sym, arith, nat_lt}
use Rattle.std.proofs.lemmas.Bool.Decides.{nat_tests}
use Rattle.std.specs.List.{position, position_or_len}
use Rattle.rules.specs.Transfers.{has_line_end, line, line_end}

ends_or : (b h : Bool) (n m : ℕ) → h ≡ nat_lt n m → (b || h) ≡ nat_lt (cond (not b) (1 + n) 0) (suc m)
ends_or true h n m e = grind (arith, nat_tests)
ends_or false h n m e = grind (arith, nat_tests)

ends_before : (xs : List ℕ) → has_line_end xs ≡ nat_lt (position_or_len line_end xs) (length xs)
ends_before [] = refl
ends_before (x ∷ xs) = ends_or (line_end x) (has_line_end xs) (position_or_len line_end xs) (length xs) (ends_before xs)

line_or : (b : Bool) (x n : ℕ) (xs ln : List ℕ) → ln ≡ take (n + 1) xs → cond b (x ∷ []) (x ∷ ln) ≡ take (cond (not b) (1 + n) 0 + 1) (x ∷ xs)
line_or true x n xs ln e = refl
line_or false x n xs ln e = let z : suc (n + 1) ≡ 1 + n + 1 = omega arith in rw e (ap (λ (i : ℕ). take i (x ∷ xs)) z)

line-is : (xs : List ℕ) → line xs ≡ take (position_or_len line_end xs + 1) xs
line-is [] = refl
line-is (x ∷ xs) = line_or (line_end x) x (position_or_len line_end xs) xs (line xs) (line-is xs)

-- by whether a byte ends a line, where the first such byte stands, and what stands up to it
told : (b : Bool) (n end : ℕ) (up_to : ℕ → List ℕ) → Some end ≡ cond b (Some n) None → Some (up_to end) ≡ (if b then Some (up_to n) else None)
told true n end up_to e = let z : end ≡ n = cc in ap (λ (i : ℕ). Some (up_to i)) z
told false n end up_to e = let z : ◌≡◌ {A = ℕ} 0 1 = cc in absurd (omega arith)

pub found : (xs : List ℕ) (end : ℕ) → Some end ≡ position line_end xs → Some (take (end + 1) xs) ≡ (if has_line_end xs then Some (line xs) else None)
found xs end e =
    told (nat_lt (position_or_len line_end xs) (length xs)) (position_or_len line_end xs) end (λ i. take (i + 1) xs) e
    ∙ sym (ap (λ (b : Bool). if b then Some (line xs) else None) (ends_before xs) ∙ ap (λ (l : List ℕ). if nat_lt (position_or_len line_end xs) (length xs) then Some l else None) (line-is xs))

untold : (b : Bool) (n : ℕ) (ln : List ℕ) → None ≡ cond b (Some n) None → None ≡ (if b then Some ln else None)
untold true n ln e = let z : ◌≡◌ {A = ℕ} 0 1 = cc in absurd (omega arith)
untold false n ln e = refl

pub none : (xs : List ℕ) → None ≡ position line_end xs → None ≡ (if has_line_end xs then Some (line xs) else None)
none xs e = untold (nat_lt (position_or_len line_end xs) (length xs)) (position_or_len line_end xs) (line xs) e ∙ sym (ap (λ (b : Bool). if b then Some (line xs) else None) (ends_before xs))

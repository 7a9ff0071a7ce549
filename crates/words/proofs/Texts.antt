-- Texts as data words, three bytes at a time.
use Rattle.std.proofs.Common.{◌≡◌, ℕ, zero, suc, ◌+◌, ◌-◌, ◌*◌, ◌/◌, ◌%◌, ◌<◌, ◌≤◌, min, true, List, [], ◌∷◌, ◌++◌, length, take, drop, slice_set, sym, refl, ap, ◌∙◌, append_assoc, arith}
use Rattle.std.proofs.lemmas.List.{drop-drop, length-drop, length-set, length-take-le, take_all, take_more_set, take-set-le}
use Rattle.std.proofs.lemmas.Bool.Decides.{nat_tests}
use Rattle.words.specs.Format.{word, text_words}
use Rattle.words.specs.Heads.{high_of, middle_of, low_of, word_bytes}
use Rattle.words.specs.Text.{goes_on}

-- a front of whole words, and what follows it
pub split_threes : (xs ys : List ℕ) → length xs % 3 ≡ 0 → text_words (xs ++ ys) ≡ text_words xs ++ text_words ys
split_threes [] ys h = refl
split_threes (a ∷ []) ys h = absurd (omega arith)
split_threes (a ∷ b ∷ []) ys h = absurd (omega arith)
split_threes (a ∷ b ∷ c ∷ xs) ys h = let again = split_threes xs ys (omega arith) in cc

-- the words of a text take four bytes for each three, a part of three counted whole
pub length-text : (xs : List ℕ) → length (text_words xs) ≡ (length xs + 2) / 3 * 4
length-text [] = refl
length-text (a ∷ []) = refl
length-text (a ∷ b ∷ []) = refl
length-text (a ∷ b ∷ c ∷ xs) = let again = length-text xs in omega arith

-- where the words of a text begin with a word, that word can hold its next bytes, and the rest goes on
pub next_word : (d more after : List ℕ) (w : ℕ) → 1 ≤ length d → text_words d ++ more ≡ word_bytes w ++ after → (goes_on w (length d) ≡ true) × (after ≡ text_words (drop 3 d) ++ more)
next_word [] more after w h e = absurd (omega arith)
next_word (x ∷ []) more after w h e =
    let t : 0 ≡ w / 16777216 = cc in
    let m : 0 ≡ middle_of w = cc in
    let l : 0 ≡ low_of w = cc in
    (grind (arith, nat_tests), (cc))
next_word (x ∷ y ∷ []) more after w h e =
    let t : 0 ≡ w / 16777216 = cc in
    let l : 0 ≡ low_of w = cc in
    (grind (arith, nat_tests), (cc))
next_word (x ∷ y ∷ z ∷ d) more after w h e =
    let t : 0 ≡ w / 16777216 = cc in
    (grind (arith, nat_tests), (cc))

-- such words are there
pub some_word : (d more : List ℕ) → 1 ≤ length d → 4 ≤ length (text_words d ++ more)
some_word [] more h = absurd (omega arith)
some_word (x ∷ []) more h = omega arith
some_word (x ∷ y ∷ []) more h = omega arith
some_word (x ∷ y ∷ z ∷ d) more h = omega arith

-- a word that goes on with a text is the words of the bytes that are left, three at most
pub goes_on_lem : (w left : ℕ) → 1 ≤ left → goes_on w left ≡ true → word_bytes w ≡ text_words (take left (high_of w ∷ middle_of w ∷ low_of w ∷ []))
goes_on_lem w zero h g = absurd (omega arith)
goes_on_lem w (suc zero) h g =
    let t : w / 16777216 ≡ 0 = grind (arith, nat_tests) in
    let m : middle_of w ≡ 0 = grind (arith, nat_tests) in
    let l : low_of w ≡ 0 = grind (arith, nat_tests) in
    cc
goes_on_lem w (suc (suc zero)) h g =
    let t : w / 16777216 ≡ 0 = grind (arith, nat_tests) in
    let l : low_of w ≡ 0 = grind (arith, nat_tests) in
    cc
goes_on_lem w (suc (suc (suc n))) h g =
    let t : w / 16777216 ≡ 0 = grind (arith, nat_tests) in
    let word-is : word_bytes w ≡ word 0 0 (high_of w) (middle_of w) (low_of w) = cc in
    word-is ∙ ap (λ (r : List ℕ). text_words (high_of w ∷ middle_of w ∷ low_of w ∷ r)) (sym (take_all n [] (omega arith)))

-- three bytes laid at a place, as far as the text goes
three_more : (text : List ℕ) (at left h m l : ℕ) → at + 2 < length text → 1 ≤ left → take (min (at + 3) (at + left)) (slice_set (slice_set (slice_set text at h) (at + 1) m) (at + 2) l) ≡ take at text ++ take left (h ∷ m ∷ l ∷ [])
three_more text at zero h m l b p = absurd (omega arith)
three_more text at (suc zero) h m l b p =
    let n : min (at + 3) (at + 1) ≡ at + 1 = omega arith in
    let one = take_more_set text at h (omega arith) in
    let two = take-set-le (at + 1) (slice_set text at h) (at + 1) m (omega arith) in
    let three = take-set-le (at + 1) (slice_set (slice_set text at h) (at + 1) m) (at + 2) l (omega arith) in
    cc
three_more text at (suc (suc zero)) h m l b p =
    let n : min (at + 3) (at + 2) ≡ at + 2 = omega arith in
    let s : at + 1 + 1 ≡ at + 2 = omega arith in
    let one = take_more_set text at h (omega arith) in
    let two = take_more_set (slice_set text at h) (at + 1) m (simp length-set (omega arith)) in
    let three = take-set-le (at + 2) (slice_set (slice_set text at h) (at + 1) m) (at + 2) l (omega arith) in
    let a = append_assoc (take at text) (h ∷ []) (m ∷ []) in
    cc
three_more text at (suc (suc (suc left))) h m l b p =
    let n : min (at + 3) (at + suc (suc (suc left))) ≡ at + 3 = omega arith in
    let s : at + 1 + 1 ≡ at + 2 = omega arith in
    let t : at + 2 + 1 ≡ at + 3 = omega arith in
    let one = take_more_set text at h (omega arith) in
    let two = take_more_set (slice_set text at h) (at + 1) m (simp length-set (omega arith)) in
    let three = take_more_set (slice_set (slice_set text at h) (at + 1) m) (at + 2) l (simp length-set (omega arith)) in
    let a = append_assoc (take at text) (h ∷ []) (m ∷ []) in
    let b = append_assoc (take at text) (h ∷ m ∷ []) (l ∷ []) in
    let all = take_all (suc (suc (suc left))) (h ∷ m ∷ l ∷ []) (omega arith) in
    cc

-- a word more of a text that is being read
pub read_more : (bytes rest after text : List ℕ) (at size w : ℕ) → at + 2 < length text → at % 3 ≡ 0 → at < size → goes_on w (size - at) ≡ true
    → bytes ≡ text_words (take (min at size) text) ++ rest → rest ≡ word_bytes w ++ after
    → bytes ≡ text_words (take (min (at + 3) size) (slice_set (slice_set (slice_set text at (high_of w)) (at + 1) (middle_of w)) (at + 2) (low_of w))) ++ after
read_more bytes rest after text at size w b m l g e f =
    let n : min at size ≡ at = omega arith in
    let s : at + (size - at) ≡ size = omega arith in
    let t = three_more text at (size - at) (high_of w) (middle_of w) (low_of w) b (omega arith) in
    let inside : at ≤ length text = omega arith in
    let k : length (take at text) % 3 ≡ 0 = simp length-take-le (omega arith) in
    let p = split_threes (take at text) (take (size - at) (high_of w ∷ middle_of w ∷ low_of w ∷ [])) k in
    let q = goes_on_lem w (size - at) (omega arith) g in
    let a = append_assoc (text_words (take at text)) (word_bytes w) after in
    cc

-- what a text of this size asks of the next word
pub rest_more : (t more rest after : List ℕ) (at size w : ℕ) → length t ≡ size → at < size → rest ≡ text_words (drop at t) ++ more → rest ≡ word_bytes w ++ after
    → (goes_on w (size - at) ≡ true) × (after ≡ text_words (drop (at + 3) t) ++ more)
rest_more t more rest after at size w k l e f =
    let d : length (drop at t) ≡ size - at = simp length-drop (omega arith) in
    let n = next_word (drop at t) more after w (omega arith) (sym e ∙ f) in
    let p = drop-drop 3 at t in
    (ap (goes_on w) (sym d) ∙ n.0, cc)

pub rest_some : (t more rest : List ℕ) (at size : ℕ) → length t ≡ size → at < size → rest ≡ text_words (drop at t) ++ more → 4 ≤ length rest
rest_some t more rest at size k l e =
    let d : 1 ≤ length (drop at t) = simp length-drop (omega arith) in
    omega (arith, some_word (drop at t) more d, ap length e)

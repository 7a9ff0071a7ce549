-- Bytes laid over others.
use Rattle.std.proofs.Common.{◌≡◌, ℕ, ◌+◌, ◌-◌, ◌≤◌, List, ◌∷◌, ◌++◌, length, slice_index_or, take, drop, sym, refl, ap, ◌∙◌, append_assoc, arith}
use Rattle.std.proofs.lemmas.List.{drop-drop, drop_more, length-append, length-drop, length-take-le, take_rest}
use Rattle.std.proofs.lemmas.Slice.{drop-put_mid, take-put_mid}
use Rattle.words.specs.Format.{text_words, word}
use Rattle.words.specs.Heads.{word_bytes}
use Rattle.words.specs.Writing.{laid}

pub laid-length : (at : ℕ) (xs out : List ℕ) → at + length xs ≤ length out → length (laid at xs out) ≡ length out
laid-length at xs out h =
    let inside : at ≤ length out = omega arith in
    simp (length-append, length-take-le, length-drop) (omega arith)

-- one list laid behind another
pub laid_more : (at to : ℕ) (xs ys out : List ℕ) → to ≡ at + length xs → at + length xs ≤ length out → laid at (xs ++ ys) out ≡ laid to ys (laid at xs out)
laid_more at to xs ys out e h =
    let t = take-put_mid at (length xs) out xs to e (omega arith) in
    let d = drop-put_mid at (length xs) out xs to (omega arith) (omega arith) refl in
    let a = append_assoc xs ys (drop (length (xs ++ ys)) (drop at out)) in
    let b = append_assoc (take at out) xs (ys ++ drop (length ys) (drop to out)) in
    let l = length-append xs ys in
    let p = drop-drop (length (xs ++ ys)) at out in
    let q = drop-drop (length ys) to out in
    let s : at + length (xs ++ ys) ≡ to + length ys = omega arith in
    cc

-- the words of a text of three bytes or more
pub three_first : (xs : List ℕ) → 3 ≤ length xs → text_words xs ≡ word 0 0 (slice_index_or xs 0 0) (slice_index_or xs 1 0) (slice_index_or xs 2 0) ++ text_words (take (length xs - 3) (drop 3 xs))
three_first xs h =
    let a = drop_more xs 0 0 (omega arith) in
    let b = drop_more xs 1 0 (omega arith) in
    let c = drop_more xs 2 0 (omega arith) in
    let r = take_rest xs 3 in
    let e : xs ≡ slice_index_or xs 0 0 ∷ slice_index_or xs 1 0 ∷ slice_index_or xs 2 0 ∷ take (length xs - 3) (drop 3 xs) = cc in
    ap text_words e

-- a word more of a text that is being laid
pub laid_word : (at w : ℕ) (rest out now' all : List ℕ) → 3 ≤ length rest → word_bytes w ≡ word 0 0 (slice_index_or rest 0 0) (slice_index_or rest 1 0) (slice_index_or rest 2 0) → now' ≡ laid at (word_bytes w) out
    → laid at (text_words rest) out ≡ all → at + length (text_words rest) ≤ length out
    → (laid (at + 4) (text_words (take (length rest - 3) (drop 3 rest))) now' ≡ all) × (at + 4 + length (text_words (take (length rest - 3) (drop 3 rest))) ≤ length now')
laid_word at w rest out now' all h e f i r =
    let more = text_words (take (length rest - 3) (drop 3 rest)) in
    let t : text_words rest ≡ word_bytes w ++ more = three_first rest h ∙ ap (λ x. x ++ more) (sym e) in
    let n = ap length t in
    let m = laid_more at (at + 4) (word_bytes w) more out refl (omega arith) in
    let k = laid-length at (word_bytes w) out (omega arith) in
    let g = ap length f in
    (ap (laid (at + 4) more) f ∙ sym m ∙ ap (λ x. laid at x out) (sym t) ∙ i, omega arith)

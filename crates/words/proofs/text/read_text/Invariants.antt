use Rattle.std.proofs.Common.{◌≡◌, ℕ, ◌-◌, ◌%◌, min, List, ◌++◌, length, take, drop}
use Rattle.words.specs.Format.{text_words}
use Rattle.words.proofs.text.read_text.Given as goal

-- what is read is the front of the text, and any text of this size goes on with the rest
abbrev pub invariant-loop-at : goal.invariant-loop-at
invariant-loop-at l =
    (l.at % 3 ≡ 0) × (length l.text ≡ 255) × (l.bytes ≡ text_words (take (min l.at l.size) l.text) ++ l.rest)
    × ((t : List ℕ) (more : List ℕ) → length t ≡ l.size → l.bytes ≡ text_words t ++ more → l.rest ≡ text_words (drop l.at t) ++ more)

abbrev pub decreases-loop-at : goal.decreases-loop-at
decreases-loop-at l = l.size - l.at

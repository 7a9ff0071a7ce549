-- A text laid over an array of zeros.
use Rattle.std.proofs.Common.{◌≡◌, ℕ, ◌≤◌, List, ◌++◌, length, take, drop, sym, ap, ◌∙◌, subst}
use Rattle.std.proofs.lemmas.List.{drop-replicate}
use Rattle.std.proofs.Math.Seq.{take-append_seam}
use Rattle.std.specs.Prelude.{replicate}
use Rattle.buffer.specs.Held.{Fields, put_back}

pub laid : (n : ℕ) (text : List ℕ) → length text ≤ n → Fields n (length text) (text ++ drop (length text) (replicate n 0))
laid n text within =
    let seam = take-append_seam text (drop (length text) (replicate n 0)) in
    record {
      within = within;
      counted = ap (λ (xs : List ℕ). length xs) seam;
      rest = ap (put_back n) seam ∙ sym (ap (λ (zeros : List ℕ). text ++ zeros) (drop-replicate (length text) n 0));
    }

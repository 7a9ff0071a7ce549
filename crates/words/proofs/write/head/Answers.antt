-- The text of the head is the length of the call's.
use Rattle.std.proofs.Common.{ℕ, List, Bor, length, rules, sym, ◌∙◌}
use Rattle.words.proofs.CallWords.{mapped, with_with}
use Rattle.words.proofs.write.head.Goals as goal

pub returns : goal.returns
returns c =
    mapped (λ (t : Bor (List ℕ)). length t.now) _ c.args.call c.map_text.result (λ x y e. search rules) c.map_text.ensures
    ∙ sym (with_with length (λ (t : Bor (List ℕ)). t.now) c.args.call)

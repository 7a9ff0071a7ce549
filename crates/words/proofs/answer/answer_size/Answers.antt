-- A reply takes one word, and the text as many as it has threes.
use Rattle.std.proofs.Common.{◌+◌, ◌*◌, ◌/◌, length, sym, ap, ◌∙◌}
use Rattle.words.proofs.AnswerWords.{answer-size}
use Rattle.words.proofs.answer.answer_size.Goals as goal

pub returns : goal.returns
returns c = λ a e. answer-size a ∙ ap (λ t. 4 + (length t + 2) / 3 * 4) e ∙ ap (λ n. 4 + n) (sym c.text_size.ensures)

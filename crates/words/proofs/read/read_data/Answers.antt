-- The data words of a call are its text.
use Rattle.std.proofs.Common.{sym, ◌∙◌}
use Rattle.words.proofs.CallWords.{no_text, this_text}
use Rattle.words.proofs.read.read_data.Goals as goal

pub returns-in_err-text : goal.returns-in_err-text
returns-in_err-text c =
    rw c.from_residual.ensures (no_text c.args.head c.args.bytes.now c.in_default.not-Create (λ t more k. c.in_err-text.ensures t more (k ∙ sym c.text_length.ensures)))

pub returns : goal.returns
returns c =
    this_text (λ t. t.now) c.args.head c.in_ok-text.text c.with_text.result c.args.bytes.now c.in_ok-text.rest.now c.requires.bare c.in_default.not-Create
    (c.in_ok-text.ensures.0 ∙ c.text_length.ensures) c.with_text.ensures c.in_ok-text.ensures.1

use Rattle.std.proofs.Common.{◌≡◌, ◌++◌, length, sym, refl, ap, ◌∙◌, arith}
use Rattle.calls.specs.Calls.{call_with}
use Rattle.words.specs.Format.{call_words, data_words, first_word}
use Rattle.words.specs.Heads.{word_bytes}
use Rattle.words.specs.Writing.{laid}
use Rattle.words.proofs.Laid.{laid_more}
use Rattle.words.proofs.write.put_call.Goals as goal

pub returns : goal.returns
returns c =
    let call = call_with (λ t. t.now) c.args.call in
    let first : word_bytes c.first_word.result ≡ first_word (call_with length call) = c.first_word.ensures ∙ ap first_word c.head.ensures in
    let whole : call_words call ≡ word_bytes c.first_word.result ++ data_words call = ap (λ w. w ++ data_words call) (sym first) in
    let size = ap length whole in
    let room = c.requires.room in
    let m = laid_more 0 4 (word_bytes c.first_word.result) (data_words call) c.args.out.now refl (omega arith) in
    c.put_data.ensures ∙ ap (laid 4 (data_words call)) c.put_word.ensures ∙ sym m ∙ ap (λ w. laid 0 w c.args.out.now) (sym whole)

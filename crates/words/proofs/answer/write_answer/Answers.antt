-- An answer is laid word by word: its reply, and the text behind it.
use Rattle.std.proofs.Common.{◌≡◌, ◌+◌, ◌++◌, length, drop, sym, refl, ap, ◌∙◌, arith}
use Rattle.words.specs.Answers.{answer_with, answer_words}
use Rattle.words.specs.Format.{text_words}
use Rattle.words.specs.Heads.{word_bytes}
use Rattle.words.specs.Writing.{laid}
use Rattle.words.proofs.AnswerWords.{answer-size}
use Rattle.words.proofs.CallWords.{told-full, told-size}
use Rattle.words.proofs.Laid.{laid-length, laid_more}
use Rattle.words.proofs.Texts.{length-text}
use Rattle.words.proofs.answer.write_answer.Goals as goal

pub returns-then-out-size-clause-told : goal.returns-then-out-size-clause-told
returns-then-out-size-clause-told c =
    let a = answer_with (λ t. t.now) c.args.answer in
    sym (told-full (answer_words a) c.args.out.now _ (sym (c.answer_size-size.ensures a refl)) c.if-out-size.true)

pub put_word-requires : goal.put_word-requires
put_word-requires c =
    let a = answer_with (λ t. t.now) c.args.answer in
    omega (arith, answer-size a, c.answer_size-size.ensures a refl)

pub put_text-requires : goal.put_text-requires
put_text-requires c =
    let a = answer_with (λ t. t.now) c.args.answer in
    let n = length-text c.args.answer.text.now in
    let size = c.answer_size-size.ensures a refl in
    let k = laid-length 0 (word_bytes c.word_of.result) c.args.out.now (omega (arith, answer-size a)) in
    omega (arith, ap length c.put_word.ensures, answer-size a)

pub returns-clause-told : goal.returns-clause-told
returns-clause-told c =
    let a = answer_with (λ t. t.now) c.args.answer in
    sym (told-size (answer_words a) c.args.out.now _ (sym (c.answer_size-size.ensures a refl)) c.if-out-size.false)

pub returns-clause-leaves : goal.returns-clause-leaves
returns-clause-leaves c =
    let a = answer_with (λ t. t.now) c.args.answer in
    let out = c.args.out.now in
    let size = c.answer_size-size.ensures a refl in
    let m = laid_more 0 4 (word_bytes c.word_of.result) (text_words a.text) out refl (omega (arith, answer-size a)) in
    c.put_text.ensures ∙ ap (laid 4 (text_words a.text)) c.put_word.ensures ∙ sym m ∙ ap (λ w. laid 0 (w ++ text_words a.text) out) c.word_of.ensures
    ∙ ap (λ n. answer_words a ++ drop n out) size

-- Where the text of an answer is missing, or data words stand past it, no answer is there.
use Rattle.std.proofs.Common.{◌≡◌, ℕ, List, ◌++◌, length, Err, refl, sym, ◌∙◌, arith, rules}
use Rattle.calls.specs.declared.refusal.Refusal.TheVariants.{Unlawful}
use Rattle.words.specs.Format.{text_words}
use Rattle.words.proofs.AnswerWords.{one-head, one-text}
use Rattle.words.proofs.answer.read_answer.Goals as goal

pub returns-in_err-text-clause-reads : goal.returns-in_err-text-clause-reads
returns-in_err-text-clause-reads c =
    let none : (t : List ℕ) (more : List ℕ) → length t ≡ c.following_size-size.result → c.in_ok-word.rest.now ≡ text_words t ++ more → ⊥ = search rules in
    let is : c.from_residual-in_err-text.result ≡ Err Unlawful = search rules in rw is (
      refl,
      search rules,
      λ a more l f e.
          let s = one-head a more c.args.bytes.now c.in_ok-word.rest.now c.in_ok-word.word c.in_ok-running.running c.in_ok-running.reply l f e (search rules) (search rules) (search rules) in
          none a.text more (s.2 ∙ sym c.following_size-size.ensures) (sym s.3),
    )

pub returns-then-starts_data-clause-reads : goal.returns-then-starts_data-clause-reads
returns-then-starts_data-clause-reads c =
    let stray = c.if-starts_data.ensures in (
      refl,
      search rules,
      λ a more l f e.
          let s = one-text a more c.args.bytes.now c.in_ok-word.rest.now c.in_ok-text.after.now c.in_ok-text.text.now c.in_ok-word.word c.in_ok-running.running c.in_ok-running.reply l f e (search rules) (search rules) (search rules) (search rules) (search rules) in
          let same = s.3 in
          let z : ◌≡◌ {A = ℕ} 0 1 = cc in
          absurd (omega arith),
    )

-- Each word goes on with the text, and where one does not, no text of this size is there.
use Rattle.std.proofs.Common.{◌≡◌, ℕ, ◌+◌, min, sym, arith}
use Rattle.std.proofs.lemmas.List.{length-set, length-take-le}
use Rattle.words.proofs.Texts.{read_more, rest_more, rest_some}
use Rattle.words.proofs.text.read_text.Goals as goal
use Rattle.words.proofs.text.read_text.Goals.{else-loop-at-test, then-loop-at-test+in_ok-word+else-not-holds_text+else-size-at-gt3}

pub returns-in_err-word : goal.returns-in_err-word
returns-in_err-word c =
    rw c.from_residual.ensures (λ t more k e.
    let short = c.in_err-word.ensures in
    let long = rest_some t more c.loop-at.rest.now c.loop-at.at c.args.size k c.loop-at-test.true (c.loop-at.invariant.3 t more k e) in
    omega (arith, short, long))

pub returns-then-not-holds_text : goal.returns-then-not-holds_text
returns-then-not-holds_text c t more k e =
    let m = rest_more t more c.loop-at.rest.now c.in_ok-word.after.now c.loop-at.at c.args.size c.in_ok-word.word k c.loop-at-test.true (c.loop-at.invariant.3 t more k e) c.in_ok-word.ensures in
    let refused = c.if-not-holds_text.ensures in
    let z : ◌≡◌ {A = ℕ} 0 1 = cc in
    absurd (omega arith)

pub loop-at-preserved : goal.loop-at-preserved
loop-at-preserved c =
    let on = c.if-not-holds_text.ensures in
    let m = read_more c.args.bytes.now c.loop-at.rest.now c.in_ok-word.after.now c.loop-at.text c.loop-at.at c.args.size c.in_ok-word.word (omega (arith, c.loop-at.invariant.0, c.loop-at.invariant.1)) c.loop-at.invariant.0 c.loop-at-test.true (sym on) c.loop-at.invariant.2 c.in_ok-word.ensures in
    (omega (arith, c.loop-at.invariant.0), simp length-set c.loop-at.invariant.1, (cc), λ t more k e. (rest_more t more c.loop-at.rest.now c.in_ok-word.after.now c.loop-at.at c.args.size c.in_ok-word.word k c.loop-at-test.true (c.loop-at.invariant.3 t more k e) c.in_ok-word.ensures).1)

pub returns : goal.returns
returns c = (
  length-take-le c.args.size c.loop-at-test.text (omega arith),
  elim c.loop-at-test.branch [
    | else-loop-at-test w ↦ let n : min c.loop-at.at c.args.size ≡ c.args.size = omega arith in cc
    | then-loop-at-test+in_ok-word+else-not-holds_text+else-size-at-gt3 w ↦
        let n : min (c.loop-at.at + 3) c.args.size ≡ c.args.size = omega arith in
        let m = read_more c.args.bytes.now c.loop-at.rest.now w.in_ok-word.after.now c.loop-at.text c.loop-at.at c.args.size w.in_ok-word.word (omega (arith, c.loop-at.invariant.0, c.loop-at.invariant.1)) c.loop-at.invariant.0 w.loop-at-test.true (sym w.if-not-holds_text.ensures) c.loop-at.invariant.2 w.in_ok-word.ensures in
        cc
  ],
)

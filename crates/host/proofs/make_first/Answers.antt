-- The call that is read is made, and its answer is the rules'.
use Rattle.std.proofs.Common.{rules, ◌≡◌, ◌++◌, refl, sym, ◌∙◌, ap, arith}
use Rattle.calls.specs.Calls.{call_with}
use Rattle.words.specs.Format.{call_words}
use Rattle.words.specs.Reading.{Writable}
use Rattle.host.specs.Answered.{answer_to}
use Rattle.host.proofs.Made.{answered}
use Rattle.host.proofs.make_first.Goals as goal

pub returns-then-out-size : goal.returns-then-out-size
returns-then-out-size g c =
    let x = call_with (λ t. t.now) c.in_ok-call.call in
    let found : (c.args.words.now ≡ call_words x ++ c.in_ok-call.rest.now) × Writable x = search rules in
    let takes = c.answer_size-size.ensures (answer_to x c.args.monitor.now) (sym c.text_behind.ensures) in
    ((x, c.in_ok-call.rest.now, found.0, omega arith), refl, refl)

pub returns : goal.returns
returns g c =
    let x = call_with (λ t. t.now) c.in_ok-call.call in
    let s = c.args.monitor.now in
    let found : (c.args.words.now ≡ call_words x ++ c.in_ok-call.rest.now) × Writable x = search rules in
    let takes = c.answer_size-size.ensures (answer_to x s) (sym c.text_behind.ensures) in
    let made = c.step-reply.ensures.made in
    record {
      call = x;
      front = found.0;
      writable = found.1;
      lawful = c.step-reply.ensures.lawful;
      state = made.state;
      takes = sym takes;
      room = c.if-out-size.false;
      answer = answered x s (record { running = c.running.result; reply = c.step-reply.result; text = c.text_behind-2.result.now }) c.args.out.now made.state c.running.ensures made.answer c.text_behind-2.ensures takes c.if-out-size.false c.write_answer.ensures.told c.write_answer.ensures.leaves;
    }

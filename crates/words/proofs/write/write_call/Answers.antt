-- The size that the head tells is that of the call's words.
use Rattle.std.proofs.Common.{◌++◌, drop, sym, ap, ◌∙◌, arith}
use Rattle.calls.specs.Calls.{call_with}
use Rattle.words.specs.Format.{call_words}
use Rattle.words.proofs.CallWords.{told-call, told-full, told-size}
use Rattle.words.proofs.write.write_call.Goals as goal

pub returns-then-out-size-clause-told : goal.returns-then-out-size-clause-told
returns-then-out-size-clause-told c =
    let call = call_with (λ t. t.now) c.args.call in
    let t = told-call call _ c.args.out.now _ c.head-head.ensures (omega arith) c.size-size.ensures in
    sym (t.1 ∙ told-full (call_words call) c.args.out.now _ t.0 c.if-out-size.true)

pub put_call-requires-clause-room : goal.put_call-requires-clause-room
put_call-requires-clause-room c =
    let t = told-call (call_with (λ t. t.now) c.args.call) _ c.args.out.now _ c.head-head.ensures (omega arith) c.size-size.ensures in
    omega arith

pub returns-clause-told : goal.returns-clause-told
returns-clause-told c =
    let call = call_with (λ t. t.now) c.args.call in
    let t = told-call call _ c.args.out.now _ c.head-head.ensures (omega arith) c.size-size.ensures in
    sym (t.1 ∙ told-size (call_words call) c.args.out.now _ t.0 c.if-out-size.false)

pub returns-clause-leaves : goal.returns-clause-leaves
returns-clause-leaves c =
    let call = call_with (λ t. t.now) c.args.call in
    let t = told-call call _ c.args.out.now _ c.head-head.ensures (omega arith) c.size-size.ensures in
    c.put_call.ensures ∙ ap (λ n. call_words call ++ drop n c.args.out.now) (sym t.0)

-- Each turn makes one more step.
use Rattle.std.proofs.Common.{rules, vec_items, arith}
use Rattle.monitor.proofs.Played.{one_more}
use Rattle.monitor.proofs.Monitor.make_all.Goals as goal

pub loop-step-preserved : goal.loop-step-preserved
loop-step-preserved g c =
    let l = c.loop-step in
    let e = c.push_reserved.ensures in
    let n = l.invariant.len in
    record {
      made = one_more {told' = vec_items c.push_reserved.new.self} c.args.steps.now l.step-index _ c.loop-step-test.true e.items l.invariant.made c.make.ensures.made c.make.ensures.lawful;
      len = omega (arith, e.len);
      capacity = search rules;
    }

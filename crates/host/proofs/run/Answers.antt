-- One more call is made at each turn, and all laws hold of those that are.
use Rattle.std.proofs.Common.{arith}
use Rattle.host.proofs.Alike.{one_run}
use Rattle.host.proofs.Made.{ended, few, one_more, tail_is, tail_put}
use Rattle.host.proofs.run.Goals as goal

pub overflow_add-calls : goal.overflow_add-calls
overflow_add-calls g c = omega (arith, few c.loop-more.invariant)

pub loop-more-preserved : goal.loop-more-preserved
loop-more-preserved g c =
    let l = c.loop-more in
    one_more l.invariant c.in-Ok.ensures (tail_is l.written l.answers) (tail_put l.written l.answers c.make_first.new.out)

pub returns-in-Err-clause-ran : goal.returns-in-Err-clause-ran
returns-in-Err-clause-ran g c =
    let l = c.loop-more in
    ended l.invariant c.in-Err.ensures (tail_is l.written l.answers) (tail_put l.written l.answers c.make_first.new.out)

pub returns-in-Err-clause-only : goal.returns-in-Err-clause-only
returns-in-Err-clause-only g c = one_run

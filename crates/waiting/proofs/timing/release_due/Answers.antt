-- Each task is nowhere in the table while its wait ends, and there are at most 64.
use Rattle.std.proofs.Common.{length, ap, ◌∙◌, arith}
use Rattle.clock.specs.View.{sleeping}
use Rattle.rules.specs.Records.{sleepers}
use Rattle.waiting.proofs.Handed.{away}
use Rattle.waiting.proofs.Due.{due-few, releasing-more}
use Rattle.waiting.proofs.timing.release_due.Goals as goal

pub release-requires : goal.release-requires
release-requires c =
    let l = c.loop-task in
    away c.in-Some.task l.tasks (sleepers (sleeping l.waits)) (sleepers (sleeping c.pop_due.new.self)) l.invariant.0.spread c.in-Some.ensures.laws.counts

pub overflow_add-count : goal.overflow_add-count
overflow_add-count c =
    let a = c.args in let l = c.loop-task in
    let f = due-few a.reading a.waits.now in
    let p = c.requires.few in
    omega (arith, l.invariant.0.told, ap length c.in-Some.ensures.laws.due)

pub loop-task-preserved : goal.loop-task-preserved
loop-task-preserved c =
    let l = c.loop-task in let k = c.in-Some.ensures in (
      releasing-more c.args.reading l.invariant.0 k.laws c.release.ensures,
      k.room ∙ l.invariant.1,
    )

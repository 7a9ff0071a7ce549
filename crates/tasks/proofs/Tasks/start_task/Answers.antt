-- The first free record and the caller are nowhere before they are linked.
use Rattle.std.proofs.Common.{◌∙◌}
use Rattle.tasks.specs.Parts.{as_task}
use Rattle.tasks.proofs.Placing.{changed_unplaced, new_unplaced}
use Rattle.tasks.proofs.Places.{runs-fill}
use Rattle.tasks.proofs.Tasks.start_task.Goals as goal

pub replace-requires : goal.replace-requires
replace-requires c = (c.take_free.ensures.left c.args.k c.requires.free).within

pub link-requires : goal.link-requires
link-requires c = c.stop.ensures.left c.args.caller (rw (c.replace.ensures, c.take_free.ensures.table) (runs-fill c.args.k (as_task c.args.with) c.args.self.now ∙ c.requires.running))

pub link-requires-2 : goal.link-requires-2
link-requires-2 c =
    let k = c.args.k in
    let x = as_task c.args.with in
    let runs = runs-fill k x c.args.self.now ∙ c.requires.running in
    let free = changed_unplaced (λ _. x) (c.take_free.ensures.left k c.requires.free) in
    rw (c.link.ensures, c.stop.ensures.table) (new_unplaced k c.args.caller c.replace.new.self (rw (c.replace.ensures, c.take_free.ensures.table) runs) (rw c.replace.ensures free))

-- A cleared record is as nowhere as it was.
use Rattle.rules.specs.State.{blank}
use Rattle.tasks.proofs.Placing.{changed_unplaced}
use Rattle.tasks.proofs.Tasks.clear.Goals as goal

pub put_free-requires : goal.put_free-requires
put_free-requires c = rw (c.replace.ensures, c.new.ensures) (changed_unplaced (λ _. blank) c.requires)

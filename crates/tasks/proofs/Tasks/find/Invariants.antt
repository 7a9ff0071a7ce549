-- No record before k has the id, so a search from k finds what a search from the first does.
use Rattle.std.proofs.Common.{◌≡◌, drop}
use Rattle.rules.specs.Tables.{id_from}
use Rattle.tasks.proofs.Tasks.find.Given as goal

abbrev pub invariant-loop-k : goal.invariant-loop-k
invariant-loop-k l = id_from l.k l.id l.self.free (drop l.k l.self.tasks) ≡ id_from 0 l.id l.self.free l.self.tasks

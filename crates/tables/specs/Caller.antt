-- The task that makes a call.
use Rattle.std.specs.Prelude.{◌≡◌, ℕ, ◌<◌, false, length, Some, None}
use Rattle.calls.specs.declared.refusal.Refusal.{Refusal}
use Rattle.calls.specs.declared.refusal.Refusal.TheVariants.{NoTask}
use Rattle.chain.specs.Lists.{has}
use Rattle.clock.specs.View.{sleeping}
use Rattle.cells.specs.View.{cells}
use Rattle.queues.specs.Four.{queues}
use Rattle.rules.specs.Records.{all_askers, sleepers, waiters}
use Rattle.rules.specs.Sound.{in_table}
use Rattle.rules.specs.Tables.{stop}
use Rattle.tables.specs.declared.Tables.{Tables}

-- the task that runs is one of the records and waits nowhere, and once stopped it is nowhere in the table
pub record Caller (x : Tables) (t : ℕ) : Type 0 where
  pub runs : Some t ≡ x.tasks.running
  pub within : t < length x.tasks.tasks
  pub stopped : in_table t (stop x.tasks) ≡ 0
  pub awake : has t (sleepers (sleeping x.waits)) ≡ false
  pub heard : has t (waiters (cells x.cells).waits) ≡ false
  pub served : has t (all_askers (queues x.queues)) ≡ false

-- no task runs
pub record NoCaller (x : Tables) (r : Refusal) : Type 0 where
  pub refused : r ≡ NoTask
  pub idle : None ≡ x.tasks.running

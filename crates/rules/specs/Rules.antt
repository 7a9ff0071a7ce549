-- Every call, the tick and the service: from a state to the state after it and its answer.
use Rattle.std.specs.Prelude.{ℕ, cond, List, [], Some, None, Option, nat_lt}
use Rattle.calls.specs.declared.call.Call.{Call}
use Rattle.calls.specs.declared.call.Call.TheVariants.{Create, Kill, Suspend, SetLevel, ById, Send, Wait, Delay, Transfer, Look, Tick, Service}
use Rattle.calls.specs.declared.call.LookedAt.{LookedAt}
use Rattle.calls.specs.declared.call.LookedAt.TheVariants.{Message, Start, Outcome}
use Rattle.calls.specs.declared.call.TransferKind.{TransferKind}
use Rattle.calls.specs.declared.call.TransferKind.TheVariants as kind
use Rattle.calls.specs.declared.refusal.Refusal.TheVariants.{NoTask, NoSuchUnit}
use Rattle.calls.specs.Numbers.{number_told}
use Rattle.chain.specs.Lists.{first}
use Rattle.rules.specs.State.{State, Task, queue_of, task_of}
use Rattle.rules.specs.Tables.{lookup}
use Rattle.rules.specs.Acts.{Done, refuse, tell}
use Rattle.rules.specs.Records.{by_id, creating, killing, levelling, suspending}
use Rattle.rules.specs.Mail.{sending, waiting}
use Rattle.rules.specs.Clock.{delaying, ticking}
use Rattle.rules.specs.Transfers.{serving, transferring}

-- a step of a run is a call of the code, with its text as a list of bytes
abbrev pub Step : Type 0
Step = Call (List ℕ)

-- what a look at a record tells
abbrev pub seen : LookedAt → Task → ℕ
seen Message t = t.word
seen Start t = t.start
seen Outcome t = number_told t.outcome

-- what stands behind the outcome that a look tells: the bytes of a task whose latest transfer was a read
abbrev pub bytes_read : Option TransferKind → List ℕ → List ℕ
bytes_read None bytes = []
bytes_read (Some kind.Write) bytes = []
bytes_read (Some kind.WriteLine) bytes = []
bytes_read (Some kind.Read) bytes = bytes
bytes_read (Some kind.ReadLine) bytes = bytes

-- the same of a record, if there is one
abbrev pub read_text : Option ℕ → State → List ℕ
read_text None s = []
read_text (Some t) s = bytes_read (task_of s t).kind (task_of s t).bytes

-- the same of the running task
abbrev pub outcome_text : State → List ℕ
outcome_text s = read_text s.table.running s

-- a task call needs a running task, the caller
abbrev pub by_caller : Option ℕ → (ℕ → Done) → State → Done
by_caller None f s = refuse NoTask s
by_caller (Some t) f s = f t

-- the units are numbered 0 to 3
abbrev pub of_unit : ℕ → Done → State → Done
of_unit u d s = cond (nat_lt 3 u) (refuse NoSuchUnit s) d

-- a step: the state after it, and its answer
abbrev pub apply : Step → State → Done
apply (Create id level start message) s = by_caller s.table.running (λ t. creating t id level start message (first s.table.free) s) s
apply Kill s = by_caller s.table.running (λ t. killing t s) s
apply Suspend s = by_caller s.table.running (λ t. suspending t s) s
apply (SetLevel level) s = by_caller s.table.running (λ t. levelling t level s) s
apply (ById id call) s = by_caller s.table.running (λ t. by_id t call (lookup id s.table) s) s
apply (Send cell message stay) s = by_caller s.table.running (λ t. sending t cell message stay s) s
apply (Wait cell) s = by_caller s.table.running (λ t. waiting t cell s) s
apply (Delay ticks) s = by_caller s.table.running (λ t. delaying t ticks s) s
apply (Transfer unit transfer) s = by_caller s.table.running (λ t. of_unit unit (transferring t unit transfer s) s) s
apply (Look at) s = by_caller s.table.running (λ t. tell (seen at (task_of s t)) s) s
apply Tick s = ticking s
apply (Service unit) s = of_unit unit (serving unit (queue_of s unit) s) s

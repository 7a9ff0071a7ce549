-- The laws of runs: what holds of every list of calls, ticks and services from every start over four units, after each answer.
-- In each, `start` is the state at the start, `past` the list so far, `now` the state that it has come to.
use Rattle.std.specs.Prelude.{◌≡◌, ℕ, ◌+◌, ◌-◌, ◌<◌, ◌≤◌, Bool, true, false, cond, not, ◌&&◌, ◌≢◌, ◌⊎◌, List, [], ◌∷◌, ◌++◌, length, take, Some, None, Ok, Err, All, sum_by, count_by, Option, Result, ◌==◌, nat_lt}
use Rattle.calls.specs.declared.call.Call.TheVariants.{Create, Kill, Suspend, SetLevel, ById, Send, Wait, Delay, Transfer, Look, Tick, Service}
use Rattle.calls.specs.declared.call.Transfer as transfer
use Rattle.calls.specs.declared.call.Transfer.TheVariants as moves
use Rattle.calls.specs.declared.refusal.Refusal.{Refusal}
use Rattle.calls.specs.Calls.{kind_of}
use Rattle.chain.specs.Lists.{has}
use Rattle.unit.specs.Medium.{Medium}
use Rattle.rules.specs.State.{Request, State, begin, level_of, queue_of, task_of, unit_of, word_of}
use Rattle.rules.specs.Acts.{Deed, linked, chose, took_out}
use Rattle.rules.specs.Records.{askers, bit}
use Rattle.rules.specs.Mail.{none, waiting_at}
use Rattle.rules.specs.Transfers.{writes}
use Rattle.rules.specs.Rules.{Step, apply}
use Rattle.rules.specs.Runs.{Entry, after, deeds_of, history}
use Rattle.rules.specs.Sound.{Sound}

-- Starts and steps ------------------------------------------------------------------------------------------------------------

-- a start with one task at least, over four units
pub record Started (start : State) : Type 0 where
  pub tasks : ℕ
  pub timed : Bool
  pub units : List Medium
  pub some : 1 ≤ tasks
  pub four : length units ≡ 4
  pub is : start ≡ begin tasks timed units

-- what every call that code can hold meets: a cell's number is below 256, and ticks are below 65,536
abbrev pub Lawful : Step → Type 0
Lawful (Create id level start message) = Unit {0}
Lawful Kill = Unit {0}
Lawful Suspend = Unit {0}
Lawful (SetLevel level) = Unit {0}
Lawful (ById id call) = Unit {0}
Lawful (Send cell message stay) = cell < 256
Lawful (Wait cell) = cell < 256
Lawful (Delay ticks) = ticks < 65536
Lawful (Transfer unit transfer) = Unit {0}
Lawful (Look at) = Unit {0}
Lawful Tick = Unit {0}
Lawful (Service unit) = Unit {0}

-- a law of a run from every start over four units, by every list of steps
abbrev pub OfEveryRun : (State → List Step → State → Type 0) → Type 0
OfEveryRun Law = (start : State) (past : List Step) → Started start → All Lawful past → Law start past (after start past)

abbrev pub is_granted : Result ℕ Refusal → Bool
is_granted (Ok n) = true
is_granted (Err r) = false

-- Soundness -------------------------------------------------------------------------------------------------------------------

-- every record is at exactly one place, marks are as they may be, chains are sorted, and what else holds of every state
abbrev pub Soundness : State → List Step → State → Type 0
Soundness start past now = Sound now

-- The ready chain -------------------------------------------------------------------------------------------------------------

-- no ready task ranks above the running one, and none is ready if none runs
abbrev pub Foremost : State → Option ℕ → Type 0
Foremost s None = s.table.ready ≡ []
Foremost s (Some r) = (t : ℕ) → has t s.table.ready ≡ true → level_of s r ≤ level_of s t

abbrev pub RunningRanksFirst : State → List Step → State → Type 0
RunningRanksFirst start past now = Foremost now now.table.running

-- the tasks of a chain in front of t
abbrev pub front : ℕ → List ℕ → List ℕ
front t [] = []
front t (x ∷ xs) = cond (x == t) [] (x ∷ front t xs)

-- a linking of t; a linking at a smaller level; a choosing; a taking out of a task in front of t
abbrev pub links : ℕ → Deed → Bool
links t (linked u level chain) = u == t
links t chose = false
links t (took_out u chain) = false

abbrev pub links_above : ℕ → Deed → Bool
links_above level (linked u l chain) = nat_lt l level
links_above level chose = false
links_above level (took_out u chain) = false

abbrev pub chooses : Deed → Bool
chooses (linked u level chain) = false
chooses chose = true
chooses (took_out u chain) = false

abbrev pub takes_out_ahead : ℕ → Deed → Bool
takes_out_ahead t (linked u level chain) = false
takes_out_ahead t chose = false
takes_out_ahead t (took_out u chain) = has u (front t chain)

-- t was linked at its level, for the last time, and of what happened to the ready chain since then:
-- tasks ahead then + linked above it since = choosings since + taken out ahead of it since + tasks ahead now
pub record Placed (t level : ℕ) (deeds : List Deed) (ready : List ℕ) : Type 0 where
  pub early : List Deed
  pub chain : List ℕ
  pub since : List Deed
  pub split : deeds ≡ early ++ linked t level chain ∷ since
  pub last : count_by (links t) since ≡ 0
  pub balance : length (front t chain) + count_by (links_above level) since ≡ count_by chooses since + count_by (takes_out_ahead t) since + length (front t ready)

-- so it is with each ready task
abbrev pub ReadyPlaces : State → List Step → State → Type 0
ReadyPlaces start past now = (t : ℕ) → has t now.table.ready ≡ true → Placed t (level_of now t) (deeds_of (history start past)) now.table.ready

-- Cells -----------------------------------------------------------------------------------------------------------------------

-- whether a step is a send to the cell c, and whether it is a wait there
abbrev pub sends_to : ℕ → Step → Bool
sends_to c (Create id level start message) = false
sends_to c Kill = false
sends_to c Suspend = false
sends_to c (SetLevel level) = false
sends_to c (ById id call) = false
sends_to c (Send cell message stay) = cell == c
sends_to c (Wait cell) = false
sends_to c (Delay ticks) = false
sends_to c (Transfer unit transfer) = false
sends_to c (Look at) = false
sends_to c Tick = false
sends_to c (Service unit) = false

abbrev pub waits_for : ℕ → Step → Bool
waits_for c (Create id level start message) = false
waits_for c Kill = false
waits_for c Suspend = false
waits_for c (SetLevel level) = false
waits_for c (ById id call) = false
waits_for c (Send cell message stay) = false
waits_for c (Wait cell) = cell == c
waits_for c (Delay ticks) = false
waits_for c (Transfer unit transfer) = false
waits_for c (Look at) = false
waits_for c Tick = false
waits_for c (Service unit) = false

-- a send granted at the cell; one that met a receiver; a granted wait that answers above 0
abbrev pub sent : ℕ → Entry → Bool
sent c e = sends_to c e.step && is_granted e.did.answer

abbrev pub handed : ℕ → Entry → Bool
handed c e = sent c e && not (none (waiting_at e.before c))

abbrev pub answers_above0 : Result ℕ Refusal → Bool
answers_above0 (Ok n) = not (n == 0)
answers_above0 (Err r) = false

abbrev pub took_later : ℕ → Entry → Bool
took_later c e = waits_for c e.step && answers_above0 e.did.answer

-- 1 if the cell is full
abbrev pub full : State → ℕ → ℕ
full s c = bit (not (word_of s.cells c == 0)) 1

-- t waits at the cell c as a receiver, and the cell is zero; or as the sender of the message that the cell holds
abbrev pub AsReceiver : ℕ → Step → State → Type 0
AsReceiver c x now = (x ≡ Wait c) × (word_of now.cells c ≡ 0)

abbrev pub AsSender : ℕ → Step → State → Type 0
AsSender c x now = (m : ℕ) × ((x ≡ Send c m true) × ((word_of now.cells c ≡ m) × (m ≢ 0)))

-- since a granted call of its own t has waited at the cell c, at every moment
pub record Began (t c : ℕ) (past : List Entry) (now : State) : Type 0 where
  pub early : List Entry
  pub call : Entry
  pub since : List Entry
  pub split : past ≡ early ++ call ∷ since
  pub caller : call.before.table.running ≡ Some t
  pub granted : is_granted call.did.answer ≡ true
  pub waited : All (λ e. has t (waiting_at e.before c) ≡ true) since
  pub role : AsReceiver c call.step now ⊎ AsSender c call.step now

-- the messages of a cell, and who waits there
pub record CellLaw (start : State) (past : List Step) (now : State) (c : ℕ) : Type 0 where
  -- sends granted = sends handed to waiters + sends taken by a later wait + 1 if it is full
  pub messages : count_by (sent c) (history start past) ≡ count_by (handed c) (history start past) + count_by (took_later c) (history start past) + full now c
  -- no receiver waits at a full cell, and no sender at an empty one
  pub roles : (t : ℕ) → has t (waiting_at now c) ≡ true → Began t c (history start past) now
  -- at most one task waits at a full cell
  pub alone : word_of now.cells c ≢ 0 → length (waiting_at now c) ≤ 1

abbrev pub CellLaws : State → List Step → State → Type 0
CellLaws start past now = (c : ℕ) → c < 256 → CellLaw start past now c

-- Units -----------------------------------------------------------------------------------------------------------------------

-- whether t waits at the unit u
abbrev pub waits_at : ℕ → ℕ → State → Bool
waits_at t u s = has t (askers (queue_of s u))

-- whether a step is a service of the unit u
abbrev pub serves : ℕ → Step → Bool
serves u (Create id level start message) = false
serves u Kill = false
serves u Suspend = false
serves u (SetLevel level) = false
serves u (ById id call) = false
serves u (Send cell message stay) = false
serves u (Wait cell) = false
serves u (Delay ticks) = false
serves u (Transfer unit transfer) = false
serves u (Look at) = false
serves u Tick = false
serves u (Service unit) = unit == u

-- a granted service of the unit u
abbrev pub served : ℕ → Entry → Bool
served u e = serves u e.step && is_granted e.did.answer

-- what a request owes: its size less the bytes moved; and what all requests of a queue owe
abbrev pub owes : Request → ℕ
owes r = r.size - r.moved

abbrev pub owed : List Request → ℕ
owed q = sum_by owes q

-- t waits at the unit u now and after each of the steps
abbrev pub Stays : ℕ → ℕ → State → List Step → Type 0
Stays t u s [] = waits_at t u s ≡ true
Stays t u s (x ∷ xs) = (waits_at t u s ≡ true) × Stays t u (apply x s).state xs

-- Of each asking in the past: t waits at the unit u then, and as long as it goes on waiting there, fewer services of the unit
-- were granted since than bytes were owed at the unit when it had asked, its own included. So its wait is over with that many.
abbrev pub Deadlines : State → List Step → State → Type 0
Deadlines start past now =
    (early : List Step) (t u : ℕ) (y : transfer.Transfer (List ℕ)) (later : List Step)
    → past ≡ early ++ Transfer u y ∷ later
    → (after start early).table.running ≡ Some t
    → is_granted (apply (Transfer u y) (after start early)).answer ≡ true
    → let then = (apply (Transfer u y) (after start early)).state in
    (waits_at t u then ≡ true) × (Stays t u then later → count_by (served u) (history then later) < owed (queue_of then u))

-- the steps that found t waiting at the unit u, up to the end of its wait
abbrev pub during : ℕ → ℕ → List Entry → List Entry
during t u [] = []
during t u (e ∷ es) = cond (waits_at t u e.before) (e ∷ during t u es) []

-- the state after some steps that began at a state
abbrev pub state_after : State → List Entry → State
state_after s [] = s
state_after s (e ∷ es) = state_after e.did.state es

-- whether the first request of a queue is that of t
abbrev pub is_first : ℕ → List Request → Bool
is_first t [] = false
is_first t (r ∷ rs) = r.task == t

-- a service of the unit u to t that did not tell full
abbrev pub takes_from : ℕ → ℕ → Entry → Bool
takes_from t u e = served u e && (is_first t (queue_of e.before u) && not ((unit_of e.before u).room == 0))

-- the transfer that a step asks of the unit u
abbrev pub asks_of : ℕ → Step → Option (transfer.Transfer (List ℕ))
asks_of u (Create id level start message) = None
asks_of u Kill = None
asks_of u Suspend = None
asks_of u (SetLevel level) = None
asks_of u (ById id call) = None
asks_of u (Send cell message stay) = None
asks_of u (Wait cell) = None
asks_of u (Delay ticks) = None
asks_of u (Transfer unit y) = cond (unit == u) (Some y) None
asks_of u (Look at) = None
asks_of u Tick = None
asks_of u (Service unit) = None

-- the transfer that a step was granted at the unit u
abbrev pub asked : ℕ → Entry → Option (transfer.Transfer (List ℕ))
asked u e = cond (is_granted e.did.answer) (asks_of u e.step) None

abbrev pub text_of : transfer.Transfer (List ℕ) → List ℕ
text_of (moves.Write text) = text
text_of (moves.WriteLine text) = text
text_of (moves.Read size) = []
text_of moves.ReadLine = []

abbrev pub is_write : transfer.Transfer (List ℕ) → Bool
is_write y = writes (Some (kind_of y))

-- what a write of t moved: the first bytes of its text, one for each service to it that did not tell full
abbrev pub written_by : ℕ → Option ℕ → Option (transfer.Transfer (List ℕ)) → List Entry → List ℕ
written_by u None y later = []
written_by u (Some t) None later = []
written_by u (Some t) (Some y) later = cond (is_write y) (take (count_by (takes_from t u) (during t u later)) (text_of y)) []

-- what a read of t moved: its transfer bytes as they stand at the end of its wait or, while it waits, now
abbrev pub read_by : ℕ → Option ℕ → Option (transfer.Transfer (List ℕ)) → State → List Entry → List ℕ
read_by u None y s later = []
read_by u (Some t) None s later = []
read_by u (Some t) (Some y) s later = cond (is_write y) [] (task_of (state_after s (during t u later)) t).bytes

-- what all writes at the unit u moved, and what all reads moved, in the order of asking
abbrev pub written : ℕ → List Entry → List ℕ
written u [] = []
written u (e ∷ later) = written_by u e.before.table.running (asked u e) later ++ written u later

abbrev pub read : ℕ → List Entry → List ℕ
read u [] = []
read u (e ∷ later) = read_by u e.before.table.running (asked u e) e.did.state later ++ read u later

-- since the start, taken grew by exactly the bytes that writes moved, and given by exactly the bytes that reads moved
pub record UnitLaw (start : State) (past : List Step) (now : State) (u : ℕ) : Type 0 where
  pub taken : (unit_of now u).taken ≡ (unit_of start u).taken ++ written u (history start past)
  pub given : (unit_of now u).given ≡ (unit_of start u).given ++ read u (history start past)

abbrev pub UnitLaws : State → List Step → State → Type 0
UnitLaws start past now = (u : ℕ) → u < 4 → UnitLaw start past now u

-- Refusals --------------------------------------------------------------------------------------------------------------------

-- a refused call changes nothing at all
abbrev pub RefusedChangeNothing : State → List Step → State → Type 0
RefusedChangeNothing start past now =
    (early : List Step) (x : Step) (later : List Step) (r : Refusal) → past ≡ early ++ x ∷ later
    → (apply x (after start early)).answer ≡ Err r → (apply x (after start early)).state ≡ after start early

-- All laws --------------------------------------------------------------------------------------------------------------------

-- the laws of the run from `start` by `past`, which has come to `now`
pub record Laws (start : State) (past : List Step) (now : State) : Type 0 where
  pub reached : now ≡ after start past
  pub sound : Soundness start past now
  pub foremost : RunningRanksFirst start past now
  pub places : ReadyPlaces start past now
  pub cells : CellLaws start past now
  pub deadlines : Deadlines start past now
  pub units : UnitLaws start past now
  pub refused : RefusedChangeNothing start past now

-- the laws of all of `more` after `past`, and of each front of it
pub record Played (start : State) (past more : List Step) (now : State) : Type 0 where
  pub all : Laws start (past ++ more) now
  pub fronts : (early later : List Step) → more ≡ early ++ later → Laws start (past ++ early) (after start (past ++ early))

-- a run that goes on keeps the laws at each of its steps
abbrev pub FrontsToo : Type 0
FrontsToo = (start : State) (past more : List Step) → Started start → All Lawful past → All Lawful more → Played start past more (after start (past ++ more))

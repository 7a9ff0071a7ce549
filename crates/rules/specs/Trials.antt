-- The trial runs: short runs of the rules from the start over any units, and what they must come to.
use Rattle.std.specs.Prelude.{◌≡◌, ℕ, true, false, List, [], ◌∷◌, ◌++◌, replicate, Some, None, Ok, Err}
use Rattle.calls.specs.declared.call.ByIdCall.TheVariants as by
use Rattle.calls.specs.declared.call.Call.TheVariants.{Create, Kill, SetLevel, ById, Send, Wait, Delay, Transfer, Look, Tick, Service}
use Rattle.calls.specs.declared.call.Transfer.TheVariants.{Write, ReadLine}
use Rattle.calls.specs.declared.call.LookedAt.TheVariants.{Outcome}
use Rattle.calls.specs.declared.refusal.Refusal.TheVariants.{NoTask, NoFreeRecord, NoSuchId, CellFull, NoMessage, BadLength}
use Rattle.unit.specs.Medium.{Medium, fresh}
use Rattle.rules.specs.State.{State, begin, task_of, word_of}
use Rattle.rules.specs.Mail.{waiting_at}
use Rattle.rules.specs.Rules.{Step}
use Rattle.rules.specs.Runs.{after, answers, runners}

-- record 0 makes three tasks of level 8, with the ids 1, 2 and 3
abbrev pub three_made : List Step
three_made = Create 1 8 0 0 ∷ Create 2 8 0 0 ∷ Create 3 8 0 0 ∷ []

-- record 0 makes two tasks of level 8 and delays; both wait at cell 9; after a tick record 0, which ranks above them, sends 5 there
abbrev pub two_receive : List Step
two_receive = Create 1 8 0 0 ∷ Create 2 8 0 0 ∷ Delay 1 ∷ Wait 9 ∷ Wait 9 ∷ Tick ∷ Send 9 5 false ∷ []

-- a task waits at cell 9 and gets a mark; then record 0 sends 5 there
abbrev pub marked_receives : List Step
marked_receives = SetLevel 9 ∷ Create 1 8 0 0 ∷ Wait 9 ∷ ById 1 by.Suspend ∷ Send 9 5 false ∷ []

-- a task delays by n ticks, and k ticks follow
abbrev pub delayed : ℕ → ℕ → List Medium → State
delayed n k us = after (begin 1 true us) (Delay n ∷ replicate k Tick)

pub record Trials (us : List Medium) : Type 0 where
  -- record 0 sets its own level to 8, and 1 runs; four ticks run 2, 3, 0 and 1
  pub round_robin : runners (begin 4 true us) (three_made ++ SetLevel 8 ∷ Tick ∷ Tick ∷ Tick ∷ Tick ∷ []) ≡ Some 0 ∷ Some 0 ∷ Some 0 ∷ Some 1 ∷ Some 2 ∷ Some 3 ∷ Some 0 ∷ Some 1 ∷ []
  -- the ids 2 and then 1, at records 2 and 1, are killed: the next create gets record 1
  pub last_freed_first : answers (begin 4 true us) (three_made ++ ById 2 by.Kill ∷ ById 1 by.Kill ∷ Create 7 8 0 0 ∷ []) ≡ Ok 1 ∷ Ok 2 ∷ Ok 3 ∷ Ok 0 ∷ Ok 0 ∷ Ok 1 ∷ []
  -- two receivers at cell 9 and a send of 5: both have 5, wait no more and are ready, and the cell is zero
  pub both_receive :
      ((task_of (after (begin 3 true us) two_receive) 1).word ≡ 5)
      × ((task_of (after (begin 3 true us) two_receive) 2).word ≡ 5)
      × (word_of (after (begin 3 true us) two_receive).cells 9 ≡ 0)
      × (waiting_at (after (begin 3 true us) two_receive) 9 ≡ [])
      × ((after (begin 3 true us) two_receive).table.running ≡ Some 0)
      × ((after (begin 3 true us) two_receive).table.ready ≡ 1 ∷ 2 ∷ [])
  -- a send of 0 to a full cell gives 6, and to an empty one 7
  pub full_before_zero : answers (begin 1 true us) (Send 9 5 false ∷ Send 9 0 false ∷ Send 8 0 false ∷ []) ≡ Ok 0 ∷ Err CellFull ∷ Err NoMessage ∷ []
  -- a delay of 1 ends with the first tick
  pub short_delay : (answers (begin 1 true us) (Delay 1 ∷ Tick ∷ []) ≡ Ok 0 ∷ Ok 1 ∷ []) × ((delayed 1 1 us).table.running ≡ Some 0)
  -- a delay of 65,535 does not end with tick 65,534, and ends with the next
  pub long_delay : ((delayed 65535 65534 us).table.running ≡ None) × ((delayed 65535 65535 us).table.running ≡ Some 0)
  -- a write of 80 bytes is granted; one of 0 bytes and one of 81 give 10
  pub lengths :
      answers (begin 2 true us) (Create 1 0 0 0 ∷ Transfer 1 (Write (replicate 80 65)) ∷ Transfer 1 (Write []) ∷ Transfer 1 (Write (replicate 81 65)) ∷ [])
      ≡ Ok 1 ∷ Ok 0 ∷ Err BadLength ∷ Err BadLength ∷ []
  -- no free record and an id in use gives 2
  pub no_record_first : answers (begin 2 true us) (Create 1 0 0 0 ∷ Create 1 0 0 0 ∷ []) ≡ Ok 1 ∷ Err NoFreeRecord ∷ []
  -- a marked receiver gets its message, goes to the suspended chain and keeps its mark
  pub marked_receiver :
      ((task_of (after (begin 2 true us) marked_receives) 1).word ≡ 5)
      × ((after (begin 2 true us) marked_receives).table.suspended ≡ 1 ∷ [])
      × ((task_of (after (begin 2 true us) marked_receives) 1).mark ≡ true)
      × (waiting_at (after (begin 2 true us) marked_receives) 9 ≡ [])

-- record 0 makes a task and reads a line from a reader with the tape 41 0D (hexadecimal); then all tasks are killed
abbrev pub line_read : List Step
line_read = Create 5 10 512 7 ∷ Transfer 0 ReadLine ∷ Service 0 ∷ Service 0 ∷ Look Outcome ∷ []

abbrev pub reader_first : List Medium → State
reader_first us = begin 4 true (fresh (65 ∷ 13 ∷ []) 0 10 ∷ us)

pub record LineRead (us : List Medium) : Type 0 where
  pub answers : answers (reader_first us) (line_read ++ Kill ∷ Kill ∷ Kill ∷ []) ≡ Ok 1 ∷ Ok 0 ∷ Ok 0 ∷ Ok 1 ∷ Ok 9474 ∷ Ok 0 ∷ Ok 0 ∷ Err NoTask ∷ []
  pub runners : runners (reader_first us) (line_read ++ Kill ∷ Kill ∷ Kill ∷ []) ≡ Some 0 ∷ Some 1 ∷ Some 1 ∷ Some 0 ∷ Some 0 ∷ Some 1 ∷ None ∷ None ∷ []
  -- what it read
  pub bytes : (task_of (after (reader_first us) line_read) 0).bytes ≡ 65 ∷ 13 ∷ []

-- Readings of the rules that are wrong, each shut out by a run ----------------------------------------------------------------

-- a task is linked behind its equals: record 0, set back to their level, stands behind all three
abbrev pub BehindEquals : List Medium → Type 0
BehindEquals us = ((after (begin 4 true us) (three_made ++ SetLevel 8 ∷ [])).table.running ≡ Some 1) × ((after (begin 4 true us) (three_made ++ SetLevel 8 ∷ [])).table.ready ≡ 2 ∷ 3 ∷ 0 ∷ [])

-- an id left by a killed task finds nobody, and a new task may have it
abbrev pub FreedIdIsGone : List Medium → Type 0
FreedIdIsGone us = answers (begin 4 true us) (three_made ++ ById 2 by.Kill ∷ ById 2 by.Status ∷ Create 2 8 0 0 ∷ []) ≡ Ok 1 ∷ Ok 2 ∷ Ok 3 ∷ Ok 0 ∷ Err NoSuchId ∷ Ok 2 ∷ []

-- a send wakes every receiver: none waits on
abbrev pub AllReceiversWake : List Medium → Type 0
AllReceiversWake us = ((task_of (after (begin 3 true us) two_receive) 2).word ≡ 5) × (waiting_at (after (begin 3 true us) two_receive) 9 ≡ [])

-- all of one level: those that a send released stand before its caller
abbrev pub ReleasedBeforeCaller : List Medium → Type 0
ReleasedBeforeCaller us =
    ((after (begin 3 true us) (Create 1 0 0 0 ∷ Create 2 0 0 0 ∷ Wait 9 ∷ Wait 9 ∷ Send 9 5 false ∷ [])).table.running ≡ Some 1)
    × ((after (begin 3 true us) (Create 1 0 0 0 ∷ Create 2 0 0 0 ∷ Wait 9 ∷ Wait 9 ∷ Send 9 5 false ∷ [])).table.ready ≡ 0 ∷ 2 ∷ [])

-- ready by id takes a waiting task's mark away and does not end its wait
abbrev pub ReadyEndsNoWait : List Medium → Type 0
ReadyEndsNoWait us =
    (waiting_at (after (begin 2 true us) (SetLevel 9 ∷ Create 1 8 0 0 ∷ Wait 9 ∷ ById 1 by.Suspend ∷ ById 1 by.Ready ∷ [])) 9 ≡ 1 ∷ [])
    × ((task_of (after (begin 2 true us) (SetLevel 9 ∷ Create 1 8 0 0 ∷ Wait 9 ∷ ById 1 by.Suspend ∷ ById 1 by.Ready ∷ [])) 1).mark ≡ false)
    × ((after (begin 2 true us) (SetLevel 9 ∷ Create 1 8 0 0 ∷ Wait 9 ∷ ById 1 by.Suspend ∷ ById 1 by.Ready ∷ [])).table.ready ≡ [])

-- Delay and tick.
use Rattle.std.specs.Prelude.{ℕ, ◌+◌, cond, not, List, [], ◌∷◌, length, ◌==◌, nat_le}
use Rattle.calls.specs.declared.refusal.Refusal.TheVariants.{NoClock, NoTicks, ClockAtEnd}
use Rattle.chain.specs.Lists.{join}
use Rattle.rules.specs.State.{ClockWait, State, with_clock, with_sleeping}
use Rattle.rules.specs.Tables.{stop}
use Rattle.rules.specs.Acts.{Done, done, plain, refuse, releasing_all}
use Rattle.rules.specs.Records.{sleepers}

-- the last reading of the clock
abbrev pub last_reading : ℕ
last_reading = 1000000000000

-- a wait of t joins the others by its due tick, the earlier above
abbrev pub join_clock : ℕ → ℕ → List ClockWait → List ClockWait
join_clock t due ws = join (λ w. w.due) (record { task = t; due = due }) ws

-- the caller waits for the clock's reading plus the ticks
abbrev pub delaying : ℕ → ℕ → State → Done
delaying t ticks s =
    cond (not s.timed) (refuse NoClock s)
    (cond (ticks == 0) (refuse NoTicks s)
    (done 0 (plain stop) (with_sleeping (join_clock t (s.clock + ticks) s.sleeping) s)))

-- the waits that are due at a reading, and the others
abbrev pub due_at : ℕ → List ClockWait → List ClockWait
due_at now [] = []
due_at now (w ∷ ws) = cond (nat_le w.due now) (w ∷ due_at now ws) (due_at now ws)

abbrev pub later_than : ℕ → List ClockWait → List ClockWait
later_than now [] = []
later_than now (w ∷ ws) = cond (nat_le w.due now) (later_than now ws) (w ∷ later_than now ws)

-- the tasks whose waits end with the next tick, in chain order
abbrev pub due_next : State → List ℕ
due_next s = sleepers (due_at (s.clock + 1) s.sleeping)

-- the clock goes up by one and all waits now due are released; the answer is their number
abbrev pub ticking : State → Done
ticking s =
    cond (not s.timed) (refuse NoClock s)
    (cond (s.clock == last_reading) (refuse ClockAtEnd s)
    (done (length (due_next s)) (releasing_all (due_next s)) (with_clock (s.clock + 1) (with_sleeping (later_than (s.clock + 1) s.sleeping) s))))

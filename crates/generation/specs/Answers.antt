-- The answers that a draft takes, and what is asked of a generation.
use Rattle.std.specs.Prelude.{ℕ, Bool, true, false, if◌then◌else◌, ◌&&◌, Ok, Err, Result, ◌==◌, nat_le}
use Rattle.calls.specs.declared.refusal.Refusal.{Refusal}
use Rattle.calls.specs.declared.refusal.Refusal.TheVariants.{OutOfRange}
use Rattle.generation.specs.declared.ClockRate.{ClockRate}
use Rattle.generation.specs.declared.ClockRate.TheVariants.{NoClock, Ten, Hundred, Thousand, Mains}
use Rattle.generation.specs.declared.Draft.{Draft}
use Rattle.generation.specs.declared.Sealed.{Sealed}

-- the answers in force
abbrev pub draft_tasks : Draft → ℕ
draft_tasks d = d.answers.tasks

abbrev pub draft_rate : Draft → ClockRate
draft_rate d = d.answers.rate

abbrev pub sealed_tasks : Sealed → ℕ
sealed_tasks g = g.kept.tasks

abbrev pub sealed_rate : Sealed → ClockRate
sealed_rate g = g.kept.rate

-- there are 1 to 64 tasks
abbrev pub lawful_tasks : ℕ → Bool
lawful_tasks n = nat_le 1 n && nat_le n 64

-- an answer out of range is refused and leaves the draft
abbrev pub told_tasks : ℕ → Result (Unit {0}) Refusal
told_tasks n = if lawful_tasks n then Ok tt else Err OutOfRange

abbrev pub tasks_after : ℕ → ℕ → ℕ
tasks_after n before = if lawful_tasks n then n else before

-- each clock rate's number
abbrev pub rate_number : ClockRate → ℕ
rate_number NoClock = 0
rate_number Ten = 1
rate_number Hundred = 2
rate_number Thousand = 3
rate_number Mains = 4

-- the rate that has a number
abbrev pub rate_of : ℕ → Result ClockRate Refusal
rate_of n =
    if n == rate_number NoClock then Ok NoClock
    else if n == rate_number Ten then Ok Ten
    else if n == rate_number Hundred then Ok Hundred
    else if n == rate_number Thousand then Ok Thousand
    else if n == rate_number Mains then Ok Mains
    else Err OutOfRange

abbrev pub told_rate : Result ClockRate Refusal → Result (Unit {0}) Refusal
told_rate (Ok rate) = Ok tt
told_rate (Err refusal) = Err refusal

abbrev pub rate_after : Result ClockRate Refusal → ClockRate → ClockRate
rate_after (Ok rate) before = rate
rate_after (Err refusal) before = before

-- whether there is a clock
abbrev pub ticks : ClockRate → Bool
ticks NoClock = false
ticks rate = true

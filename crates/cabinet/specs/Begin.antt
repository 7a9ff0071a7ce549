-- The state that a cabinet begins with, and why there is none.
use Rattle.std.specs.Prelude.{◌≡◌, ℕ, List, [], ◌∷◌, ◌⊎◌, take, Ok, Err}
use Rattle.unit.specs.Medium.{Medium, fresh, full_room}
use Rattle.tape.specs.Kinds.{console_code, longest, punch_code, reader_code}
use Rattle.needles.specs.Bank.{needle_code}
use Rattle.generation.specs.Answers.{rate_of, ticks, told_rate, told_tasks}
use Rattle.generation.specs.declared.ClockRate.{ClockRate}
use Rattle.rules.specs.State.{State, begin}
use Rattle.cabinet.specs.declared.NotStarted.{NotStarted}
use Rattle.cabinet.specs.declared.NotStarted.TheVariants.{Refused, NoMemory}

-- a reader with a tape, a punch, a needle bank and a console without keys, as units 0 to 3
abbrev pub units_with : List ℕ → List Medium
units_with tape = fresh (take longest tape) 0 reader_code ∷ fresh [] full_room punch_code ∷ fresh [] full_room needle_code ∷ fresh [] full_room console_code ∷ []

-- the start for so many tasks at a clock rate, which are in range, over those units
pub record Begins (tasks rate : ℕ) (tape : List ℕ) (start : State) : Type 0 where
  pub in_range : told_tasks tasks ≡ Ok tt
  pub clock : ClockRate
  pub found : rate_of rate ≡ Ok clock
  pub is : start ≡ begin tasks (ticks clock) (units_with tape)

-- an answer to the draft is out of range; or both are in range, and there is no memory
abbrev pub Lacks : ℕ → ℕ → NotStarted → Type 0
Lacks tasks rate (Refused refusal) = (told_tasks tasks ≡ Err refusal) ⊎ (told_rate (rate_of rate) ≡ Err refusal)
Lacks tasks rate NoMemory = (told_tasks tasks ≡ Ok tt) × (told_rate (rate_of rate) ≡ Ok tt)

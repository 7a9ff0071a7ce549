-- The waits that are due, taken off one by one.
use Rattle.std.specs.Prelude.{◌≡◌, ℕ, ◌+◌, cond, List, [], ◌∷◌, ◌++◌, None, Option, nat_le}
use Rattle.std.specs.Option.{option_to_list}
use Rattle.chain.specs.Lists.{count}
use Rattle.rules.specs.State.{ClockWait}
use Rattle.rules.specs.Clock.{due_at, later_than}
use Rattle.rules.specs.Records.{sleepers}

-- the waits without the first that is due at a reading
abbrev pub without_first_due : ℕ → List ClockWait → List ClockWait
without_first_due reading [] = []
without_first_due reading (w ∷ ws) = cond (nat_le w.due reading) ws (w ∷ without_first_due reading ws)

-- the wait of one task that was due is over, or none was due
pub record ReleasedOne (reading : ℕ) (taken : Option ℕ) (before after : List ClockWait) : Type 0 where
  -- the task taken and those that are still due make up those that were due, in order
  pub due : sleepers (due_at reading before) ≡ option_to_list taken ++ sleepers (due_at reading after)
  -- the later waits stay
  pub later : later_than reading after ≡ later_than reading before
  -- where none was taken, the later waits are all there is
  pub done : taken ≡ None → after ≡ later_than reading before
  -- no other task is lost
  pub counts : (k : ℕ) → count k (sleepers before) ≡ count k (option_to_list taken) + count k (sleepers after)

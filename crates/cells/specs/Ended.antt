-- The waits at a cell, ended one by one.
use Rattle.std.specs.Prelude.{◌≡◌, ℕ, ◌+◌, List, ◌++◌, None, Option}
use Rattle.std.specs.Option.{option_to_list}
use Rattle.chain.specs.Lists.{count}
use Rattle.rules.specs.State.{CellWait}
use Rattle.rules.specs.Mail.{elsewhere, tasks_at}
use Rattle.rules.specs.Records.{waiters}

-- the wait of one task at the cell c is over, or there was none
pub record EndedOne (c : ℕ) (taken : Option ℕ) (before after : List CellWait) : Type 0 where
  -- the task taken and those that still wait there make up those that waited there, in order
  pub here : tasks_at c before ≡ option_to_list taken ++ tasks_at c after
  -- the waits at other cells stay
  pub others : elsewhere c after ≡ elsewhere c before
  -- where none was taken, those are all there is
  pub done : taken ≡ None → after ≡ elsewhere c before
  -- no other task is lost
  pub counts : (k : ℕ) → count k (waiters before) ≡ count k (option_to_list taken) + count k (waiters after)

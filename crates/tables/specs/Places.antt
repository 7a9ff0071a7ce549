-- Where a record is.
use Rattle.std.specs.Prelude.{ℕ, ◌<◌, ◌≤◌, Bool, false, cond, length, Some, None, Option, ◌==◌, MatchOption}
use Rattle.chain.specs.Lists.{has}
use Rattle.rules.specs.State.{State}
use Rattle.rules.specs.Records.{sleepers, waiters}
use Rattle.tables.specs.declared.place.Place.{Place}
use Rattle.tables.specs.declared.place.Place.TheVariants.{Free, Running, Ready, Suspended, AtCell, Delayed, AtUnit}

-- whether k runs
abbrev pub runs : ℕ → Option ℕ → Bool
runs k None = false
runs k (Some t) = t == k

-- the place of the record k of a state; a record that is nowhere else waits at a unit
abbrev pub place_in : State → ℕ → Place
place_in s k =
    cond (has k s.table.free) Free
    (cond (runs k s.table.running) Running
    (cond (has k s.table.ready) Ready
    (cond (has k s.table.suspended) Suspended
    (cond (has k (waiters s.cells.waits)) AtCell
    (cond (has k (sleepers s.sleeping)) Delayed AtUnit)))))

-- what is read of the record k, if there is one
abbrev pub IfRecord : {X : Type 0} → State → ℕ → Option X → (X → Type 0) → Type 0
IfRecord s k told holds = MatchOption told (length s.table.tasks ≤ k) (λ x. (k < length s.table.tasks) × holds x)

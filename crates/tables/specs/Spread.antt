-- Tasks that wait, beside a task table.
use Rattle.std.specs.Prelude.{ℕ, ◌+◌, ◌≤◌, cond, List, length, nat_lt}
use Rattle.chain.specs.Lists.{count}
use Rattle.rules.specs.State.{Table}
use Rattle.rules.specs.Sound.{in_table}

-- every record stands at most once in the table or among those that wait, and nothing else stands there
abbrev pub Spread : Table → List ℕ → Type 0
Spread a waiting = (k : ℕ) → count k waiting + in_table k a ≤ cond (nat_lt k (length a.tasks)) 1 0

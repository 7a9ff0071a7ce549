-- The waiting tasks that a table of links and a head stand for, and what can be done to a list of them.
-- Names no struct that has a ghost field.
use Rattle.std.specs.Prelude.{ℕ, if◌then◌else◌, List, [], ◌∷◌, map, Option, ◌==◌, slice_index_or}
use Rattle.chain.specs.declared.Links.{Links}
use Rattle.chain.specs.Chains.{chain, nexts, records}
use Rattle.line.specs.declared.Waiting.{Waiting}

-- task t waits with the wait x
abbrev pub waiting : {R : Type 0} → ℕ → R → Waiting R
waiting t x = record { task = t; wait = x }

-- task t with its record in the table, which is `none` only past the table's end
abbrev pub wait_in : {R : Type 0} → R → List R → ℕ → Waiting R
wait_in none rs t = waiting t (slice_index_or rs t none)

-- the tasks of the chain from h, with their records
unfoldable pub waits : {R : Type 0} → R → Links R → Option ℕ → List (Waiting R)
waits none a h = map (wait_in none (records a)) (chain (nexts a) h)

-- the first with another wait
abbrev pub on_first : {R : Type 0} → R → List (Waiting R) → List (Waiting R)
on_first x [] = []
on_first x (w ∷ ws) = waiting w.task x ∷ ws

-- all but task t
abbrev pub without_task : {R : Type 0} → ℕ → List (Waiting R) → List (Waiting R)
without_task t [] = []
without_task t (w ∷ ws) = if w.task == t then ws else w ∷ without_task t ws

-- the tasks whose waits have the key k
abbrev pub tasks_with : {R : Type 0} → (R → ℕ) → ℕ → List (Waiting R) → List ℕ
tasks_with key k [] = []
tasks_with key k (w ∷ ws) = if key w.wait == k then w.task ∷ tasks_with key k ws else tasks_with key k ws

-- all but the first whose wait has the key k
abbrev pub without_first_with : {R : Type 0} → (R → ℕ) → ℕ → List (Waiting R) → List (Waiting R)
without_first_with key k [] = []
without_first_with key k (w ∷ ws) = if key w.wait == k then ws else w ∷ without_first_with key k ws

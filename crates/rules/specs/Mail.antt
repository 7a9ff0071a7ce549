-- Send and wait.
use Rattle.std.specs.Prelude.{ℕ, Bool, true, false, cond, not, List, [], ◌∷◌, ◌++◌, ◌==◌, slice_set}
use Rattle.std.specs.Option.{option_to_list}
use Rattle.calls.specs.declared.refusal.Refusal.TheVariants.{CellFull, NoMessage}
use Rattle.chain.specs.Lists.{first}
use Rattle.rules.specs.State.{CellWait, Cells, State, with_cells, with_word, word_of}
use Rattle.rules.specs.Tables.{change, stop}
use Rattle.rules.specs.Acts.{Done, ◌then◌, done, handing_all, plain, refuse, releasing_all}

-- the tasks that wait at the cell c, the longest first
abbrev pub tasks_at : ℕ → List CellWait → List ℕ
tasks_at c [] = []
tasks_at c (w ∷ ws) = cond (w.cell == c) (w.task ∷ tasks_at c ws) (tasks_at c ws)

-- the waits at other cells
abbrev pub elsewhere : ℕ → List CellWait → List CellWait
elsewhere c [] = []
elsewhere c (w ∷ ws) = cond (w.cell == c) (elsewhere c ws) (w ∷ elsewhere c ws)

-- the waits without the longest at the cell c
abbrev pub without_first_at : ℕ → List CellWait → List CellWait
without_first_at c [] = []
without_first_at c (w ∷ ws) = cond (w.cell == c) ws (w ∷ without_first_at c ws)

-- whether there is none in a list
abbrev pub none : {A : Type 0} → List A → Bool
none [] = true
none (x ∷ xs) = false

-- the word of the cell c is m
abbrev pub put_word : ℕ → ℕ → Cells → Cells
put_word c m x = record { words = slice_set x.words c m; waits = x.waits }

-- t waits at the cell c, as the last
abbrev pub join_cell : ℕ → ℕ → Cells → Cells
join_cell t c x = record { words = x.words; waits = x.waits ++ (record { task = t; cell = c }) ∷ [] }

-- all waits at the cell c are over, or the longest
abbrev pub empty_cell : ℕ → Cells → Cells
empty_cell c x = record { words = x.words; waits = elsewhere c x.waits }

abbrev pub leave_first : ℕ → Cells → Cells
leave_first c x = record { words = x.words; waits = without_first_at c x.waits }

-- the tasks that wait at the cell c: its receivers while it is zero, its sender while it is full
abbrev pub waiting_at : State → ℕ → List ℕ
waiting_at s c = tasks_at c s.cells.waits

-- The calls -------------------------------------------------------------------------------------------------------------------

-- each receiver gets the message and is released, in order; the cell stays zero and the caller does not wait
abbrev pub delivering : ℕ → ℕ → State → Done
delivering c m s = done 0 (handing_all m (waiting_at s c)) (with_cells (empty_cell c s.cells) s)

-- the cell takes the message, and a caller who stays waits
abbrev pub posting : ℕ → ℕ → ℕ → Bool → State → Done
posting t c m true s = done 0 (plain stop) (with_cells (join_cell t c (put_word c m s.cells)) s)
posting t c m false s = done 0 (plain (λ a. a)) (with_cells (put_word c m s.cells) s)

abbrev pub sending : ℕ → ℕ → ℕ → Bool → State → Done
sending t c m stay s =
    cond (not (word_of s.cells c == 0)) (refuse CellFull s)
    (cond (m == 0) (refuse NoMessage s)
    (cond (none (waiting_at s c)) (posting t c m stay s) (delivering c m s)))

-- the caller gets the message as its word and as the answer, the cell becomes zero, and a sender who stayed is released
abbrev pub taking : ℕ → ℕ → State → Done
taking t c s = done (word_of s.cells c) (plain (change t (with_word (word_of s.cells c))) then releasing_all (option_to_list (first (waiting_at s c)))) (with_cells (leave_first c (put_word c 0 s.cells)) s)

-- the caller waits for a message
abbrev pub awaiting : ℕ → ℕ → State → Done
awaiting t c s = done 0 (plain stop) (with_cells (join_cell t c s.cells) s)

abbrev pub waiting : ℕ → ℕ → State → Done
waiting t c s = cond (word_of s.cells c == 0) (awaiting t c s) (taking t c s)

-- What is done to the table: linking, choosing, taking out, releasing, the turn, and what calls do to one record.
-- These stay shut, so that the layers of the code can promise them by name.
use Rattle.std.specs.Prelude.{ℕ, ◌+◌, true, false, cond, not, ◌&&◌, List, [], ◌∷◌, Some, None, Option, ◌==◌, slice_set}
use Rattle.chain.specs.Lists.{first, has, join, rest, without}
use Rattle.rules.specs.State.{Table, Task, blank, level_in, record_in, with_free, with_level, with_mark, with_ready, with_running, with_suspended, with_tasks, with_word}

-- Chains ----------------------------------------------------------------------------------------------------------------------

-- t goes into the ready chain, behind all of equal or higher rank
unfoldable pub link : ℕ → Table → Table
link t a = with_ready (join (level_in a) t a.ready) a

-- the first ready task runs; if none is ready, no task runs
unfoldable pub choose : Table → Table
choose a = with_running (first a.ready) (with_ready (rest a.ready) a)

-- t leaves the ready chain, if it is there
unfoldable pub take_out : ℕ → Table → Table
take_out t a = with_ready (without t a.ready) a

-- t goes to the head of the suspended chain
unfoldable pub suspend : ℕ → Table → Table
suspend t a = with_suspended (t ∷ a.suspended) a

-- t leaves the suspended chain, if it is there
unfoldable pub unsuspend : ℕ → Table → Table
unsuspend t a = with_suspended (without t a.suspended) a

-- the first free record leaves the free chain
unfoldable pub take_free : Table → Table
take_free a = with_free (rest a.free) a

-- t goes to the head of the free chain
unfoldable pub put_free : ℕ → Table → Table
put_free t a = with_free (t ∷ a.free) a

-- the running task runs no longer
unfoldable pub stop : Table → Table
stop a = with_running None a

-- the record t is changed
unfoldable pub change : ℕ → (Task → Task) → Table → Table
change t f a = with_tasks (slice_set a.tasks t (f (record_in a t))) a

-- Releasing and turns ---------------------------------------------------------------------------------------------------------

-- t, whose wait is over, goes to the suspended chain if it has a mark, and is linked otherwise
unfoldable pub release : ℕ → Table → Table
release t a = cond (record_in a t).mark (suspend t a) (link t a)

abbrev pub release_all : List ℕ → Table → Table
release_all [] a = a
release_all (t ∷ ts) a = release_all ts (release t a)

-- t gets the message m and is released
unfoldable pub hand : ℕ → ℕ → Table → Table
hand m t a = release t (change t (with_word m) a)

abbrev pub hand_all : ℕ → List ℕ → Table → Table
hand_all m [] a = a
hand_all m (t ∷ ts) a = hand_all m ts (hand m t a)

abbrev pub link_running : Option ℕ → Table → Table
link_running None a = a
link_running (Some t) a = link t (stop a)

-- the running task is linked, if there still is one, and then one is chosen
unfoldable pub turn : Table → Table
turn a = choose (link_running a.running a)

-- Records ---------------------------------------------------------------------------------------------------------------------

-- the record t, cleared, goes to the head of the free chain
abbrev pub clear : ℕ → Table → Table
clear t a = put_free t (change t (λ _. blank) a)

-- the first free record, k, is filled with x
abbrev pub fill : ℕ → Task → Table → Table
fill k x a = change k (λ _. x) (take_free a)

-- the first live task with the id from record n on
abbrev pub id_from : ℕ → ℕ → List ℕ → List Task → Option ℕ
id_from n id free [] = None
id_from n id free (t ∷ ts) = cond (t.id == id && not (has n free)) (Some n) (id_from (n + 1) id free ts)

-- the live task that has a nonzero id
abbrev pub lookup : ℕ → Table → Option ℕ
lookup id a = cond (id == 0) None (id_from 0 id a.free a.tasks)

-- What a call by id does to a task other than the caller ----------------------------------------------------------------------

-- k, which waits no more, is cleared and freed
abbrev pub kill_other : ℕ → Table → Table
kill_other k a = clear k (unsuspend k (take_out k a))

-- k gets a mark; a ready task is taken out and suspended
unfoldable pub suspend_other : ℕ → Table → Table
suspend_other k a = cond (has k a.ready) (suspend k (change k (with_mark true) (take_out k a))) (change k (with_mark true) a)

-- k loses its mark; a suspended task is linked
unfoldable pub ready_other : ℕ → Table → Table
ready_other k a = cond (has k a.suspended) (link k (change k (with_mark false) (unsuspend k a))) (change k (with_mark false) a)

-- k gets a level; a ready task is taken out and linked
unfoldable pub level_other : ℕ → ℕ → Table → Table
level_other k l a = cond (has k a.ready) (link k (change k (with_level l) (take_out k a))) (change k (with_level l) a)

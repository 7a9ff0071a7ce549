-- Each step keeps what holds of every state.
use Rattle.std.proofs.Common.{◌≡◌, ℕ, zero, suc, ◌+◌, ◌<◌, ◌≤◌, Bool, true, false, cond, ◌&&◌, eqb, ltb, leb, ◌≢◌, List, [], ◌∷◌, ◌++◌, map, length, get_or, take, set, replicate, Some, None, All, Option, sym, refl, ap, ◌∙◌, subst, ⊎_elim, append_assoc, append-nil, arith, length-set}
use Rattle.std.proofs.lemmas.List.{get_or_past, get_or-set_same, length-append, length-replicate}
use Rattle.std.proofs.lemmas.List.Elements.{All-nil, All-cons, All-head, All-tail}
use Rattle.std.proofs.lemmas.Bool.{cases_Bool, cases_lt, cond_both, eqb-true, eqb-false, false≢true, and_from, and_parts, ne_eqb}
use Rattle.std.proofs.lemmas.Bool.Decides.{nat_tests}
use Rattle.calls.specs.declared.call.Transfer as transfer
use Rattle.calls.specs.declared.call.TransferKind.{TransferKind}
use Rattle.chain.specs.Lists.{count, has, none_above, one, rising, sorted}
use Rattle.chain.proofs.Orders.{join-sorted}
use Rattle.unit.specs.Medium.{Medium}
use Rattle.rules.specs.State.{ClockWait, Request, State, unit_of, level_of, Table, Task, begin, blank, queue_of, record_in, task_of, with_bytes, with_outcome, with_transfer}
use Rattle.rules.specs.Tables.{change, choose, clear, link, lookup, put_free, release, stop, take_free, take_out, turn, unsuspend}
use Rattle.rules.specs.Acts.{Deed, Done, grant}
use Rattle.rules.specs.Records.{making, new_task, or_else, without_sleeper}
use Rattle.rules.specs.Clock.{join_clock, last_reading, later_than}
use Rattle.rules.specs.Transfers.{asking, ending, going_on, longest, move_of, writes}
use Rattle.rules.specs.Rules.{Step, apply}
use Rattle.rules.specs.Runs.{after, deeds_of, history}
use Rattle.rules.specs.Sound.{Marks, Sound, UniqueIds, all_fit, fits, in_table}
use Rattle.rules.specs.Laws.{Foremost, Lawful, OfEveryRun, ReadyPlaces, RunningRanksFirst, Soundness, Started}
use Rattle.rules.proofs.Counts.{one_same, tasks-release, tasks-turn}
use Rattle.rules.proofs.Tidy.{Tidy, ready-once, record_same}
use Rattle.rules.proofs.Places.{link_of, placed_so}
use Rattle.rules.proofs.Waits.{absent}
use Rattle.rules.proofs.Kept.{Kept, kept_step}
use Rattle.rules.proofs.Fields.{Light, same-change, same_stop, same-tasks, same_turn, touched, untouched}
use Rattle.rules.proofs.Moves.{had_from, moved}
use Rattle.rules.proofs.Requests.{asked-load, end-load, fitting, on-load, requests-step}
use Rattle.rules.proofs.Shapes.{Asked, Shape, shape, refuses, tells-only, creates, kills, suspends, levels, turns, kills-other, readies_other, suspends-other, levels-other, posts, delivers, awaits, takes, delays, ticks, asks, goes_on, ends}

-- The clock -------------------------------------------------------------------------------------------------------------------
abbrev Due : ℕ → ClockWait → Type 0
Due now w = (now < w.due) × (w.due ≤ now + 65535)

record Timely (ws : List ClockWait) (now : ℕ) : Type 0 where
  sorts : sorted (λ w. w.due) ws ≡ true
  dues : All (Due now) ws
  bound : now ≤ last_reading

all-joined : (now t due : ℕ) (ws : List ClockWait) → (now < due) × (due ≤ now + 65535) → All (Due now) ws → All (Due now) (join_clock t due ws)
all-joined now t due [] p h = All-cons (Due now) (record { task = t; due = due }) [] p h
all-joined now t due (w ∷ ws) p h = cond_both (ltb due w.due) ((record { task = t; due = due }) ∷ w ∷ ws) (w ∷ join_clock t due ws) (All (Due now))
    (λ _. All-cons (Due now) (record { task = t; due = due }) (w ∷ ws) p h)
    (λ _. All-cons (Due now) w (join_clock t due ws) (All-head (Due now) w ws h) (all-joined now t due ws p (All-tail (Due now) w ws h)))

all-later : (now : ℕ) (ws : List ClockWait) → All (Due now) ws → All (Due (now + 1)) (later_than (now + 1) ws)
all-later now [] h = All-nil (Due (now + 1))
all-later now (w ∷ ws) h = cond_both (leb w.due (now + 1)) (later_than (now + 1) ws) (w ∷ later_than (now + 1) ws) (All (Due (now + 1)))
    (λ _. all-later now ws (All-tail (Due now) w ws h))
    (λ e. let a = (All-head (Due now) w ws h).0 in let b = (All-head (Due now) w ws h).1 in
    All-cons (Due (now + 1)) w (later_than (now + 1) ws) (grind (arith, nat_tests), omega arith) (all-later now ws (All-tail (Due now) w ws h)))

none-later : (x : ClockWait) (now : ℕ) (ws : List ClockWait) → none_above (λ w. w.due) x ws ≡ true → none_above (λ w. w.due) x (later_than now ws) ≡ true
none-later x now [] h = refl
none-later x now (w ∷ ws) h = let p = and_parts (leb x.due w.due) (none_above (λ w. w.due) x ws) h in
    cond_both (leb w.due now) (later_than now ws) (w ∷ later_than now ws) (λ l. none_above (λ w. w.due) x l ≡ true) (λ _. none-later x now ws p.1) (λ _. and_from _ _ p.0 (none-later x now ws p.1))

sorted-later : (now : ℕ) (ws : List ClockWait) → sorted (λ w. w.due) ws ≡ true → sorted (λ w. w.due) (later_than now ws) ≡ true
sorted-later now [] h = refl
sorted-later now (w ∷ ws) h = let p = and_parts (none_above (λ w. w.due) w ws) (sorted (λ w. w.due) ws) h in
    cond_both (leb w.due now) (later_than now ws) (w ∷ later_than now ws) (λ l. sorted (λ w. w.due) l ≡ true) (λ _. sorted-later now ws p.1) (λ _. and_from _ _ (none-later w now ws p.0) (sorted-later now ws p.1))

all_left : (now t : ℕ) (ws : List ClockWait) → All (Due now) ws → All (Due now) (without_sleeper t ws)
all_left now t [] h = h
all_left now t (w ∷ ws) h = cond_both (eqb w.task t) ws (w ∷ without_sleeper t ws) (All (Due now)) (λ _. All-tail (Due now) w ws h)
    (λ _. All-cons (Due now) w (without_sleeper t ws) (All-head (Due now) w ws h) (all_left now t ws (All-tail (Due now) w ws h)))

none_left : (x : ClockWait) (t : ℕ) (ws : List ClockWait) → none_above (λ w. w.due) x ws ≡ true → none_above (λ w. w.due) x (without_sleeper t ws) ≡ true
none_left x t [] h = refl
none_left x t (w ∷ ws) h = let p = and_parts (leb x.due w.due) (none_above (λ w. w.due) x ws) h in
    cond_both (eqb w.task t) ws (w ∷ without_sleeper t ws) (λ l. none_above (λ w. w.due) x l ≡ true) (λ _. p.1) (λ _. and_from _ _ p.0 (none_left x t ws p.1))

sorted-left : (t : ℕ) (ws : List ClockWait) → sorted (λ w. w.due) ws ≡ true → sorted (λ w. w.due) (without_sleeper t ws) ≡ true
sorted-left t [] h = refl
sorted-left t (w ∷ ws) h = let p = and_parts (none_above (λ w. w.due) w ws) (sorted (λ w. w.due) ws) h in
    cond_both (eqb w.task t) ws (w ∷ without_sleeper t ws) (λ l. sorted (λ w. w.due) l ≡ true) (λ _. p.1) (λ _. and_from _ _ (none_left w t ws p.0) (sorted-left t ws p.1))

timely_step : {s : State} {x : Step} {d : Done} → Shape s x d → Lawful x → Timely s.sleeping s.clock → Timely d.state.sleeping d.state.clock
timely_step (refuses x r) ok h = h
timely_step (tells-only x n q) ok h = h
timely_step (creates t k ks id level start message e f n) ok h = h
timely_step (kills x t q e) ok h = h
timely_step (suspends x t q e) ok h = h
timely_step (levels x t level q e) ok h = h
timely_step (turns x t q e) ok h = h
timely_step {s} (kills-other id t k e n f a) ok h = record { sorts = sorted-left k s.sleeping h.sorts; dues = all_left s.clock k s.sleeping h.dues; bound = h.bound }
timely_step (readies_other id t k e n f) ok h = h
timely_step (suspends-other id t k e n f) ok h = h
timely_step (levels-other id t k level e n f) ok h = h
timely_step (posts t c m true e a b n) ok h = h
timely_step (posts t c m false e a b n) ok h = h
timely_step (delivers t c m stay e a b n) ok h = h
timely_step (awaits t c e a) ok h = h
timely_step (takes t c e a) ok h = h
timely_step {s} (delays t n e a) ok h = record {
  sorts = join-sorted (λ w. w.due) (record { task = t; due = s.clock + n }) s.sleeping h.sorts;
  dues = all-joined s.clock t (s.clock + n) s.sleeping (let z = eqb-false n 0 a in (grind (arith, nat_tests), omega arith)) h.dues;
  bound = h.bound;
}
timely_step {s} (ticks a) ok h = record {
  sorts = sorted-later (s.clock + 1) s.sleeping h.sorts;
  dues = all-later s.clock s.sleeping h.dues;
  bound = let b = h.bound in grind (arith, nat_tests);
}
timely_step (asks t u y k bytes size e l a) ok h = h
timely_step (goes_on u r rs l q a) ok h = h
timely_step (ends u r rs o l q a) ok h = h

-- Sizes -----------------------------------------------------------------------------------------------------------------------
record Sizes (words : List ℕ) (queues : List (List Request)) (units : List Medium) : Type 0 where
  cells : length words ≡ 256
  requests : length queues ≡ 4
  four : length units ≡ 4

sizes_step : {s : State} {x : Step} {d : Done} → Shape s x d → Sizes s.cells.words s.queues s.units → Sizes d.state.cells.words d.state.queues d.state.units
sizes_step (refuses x r) h = h
sizes_step (tells-only x n q) h = h
sizes_step (creates t k ks id level start message e f n) h = h
sizes_step (kills x t q e) h = h
sizes_step (suspends x t q e) h = h
sizes_step (levels x t level q e) h = h
sizes_step (turns x t q e) h = h
sizes_step (kills-other id t k e n f a) h = h
sizes_step (readies_other id t k e n f) h = h
sizes_step (suspends-other id t k e n f) h = h
sizes_step (levels-other id t k level e n f) h = h
sizes_step {s} (posts t c m true e a b n) h = record { cells = length-set s.cells.words c m ∙ h.cells; requests = h.requests; four = h.four }
sizes_step {s} (posts t c m false e a b n) h = record { cells = length-set s.cells.words c m ∙ h.cells; requests = h.requests; four = h.four }
sizes_step (delivers t c m stay e a b n) h = h
sizes_step (awaits t c e a) h = h
sizes_step {s} (takes t c e a) h = record { cells = length-set s.cells.words c 0 ∙ h.cells; requests = h.requests; four = h.four }
sizes_step (delays t n e a) h = h
sizes_step (ticks a) h = h
sizes_step {s} (asks t u y k bytes size e l a) h = record { cells = h.cells; requests = length-set s.queues u _ ∙ h.requests; four = h.four }
sizes_step {s} (goes_on u r rs l q a) h = record { cells = h.cells; requests = length-set s.queues u _ ∙ h.requests; four = length-set s.units u _ ∙ h.four }
sizes_step {s} (ends u r rs o l q a) h = record { cells = h.cells; requests = length-set s.queues u _ ∙ h.requests; four = length-set s.units u _ ∙ h.four }

-- Ids -------------------------------------------------------------------------------------------------------------------------
id_light : Light (λ x. x.id)
id_light = record { level = λ l x. refl; mark = λ b x. refl; word = λ m x. refl }

ids_like : (a b : Table) → ((k : ℕ) → (record_in b k).id ≡ (record_in a k).id) → UniqueIds a → UniqueIds b
ids_like a b e h i k p z = h i k (sym (e i) ∙ p ∙ e k) (λ q. z (e i ∙ q))

-- the record t has another id, which no other has unless it is 0
ids_set : (t : ℕ) (a b : Table) → ((k : ℕ) → eqb t k ≡ false → (record_in b k).id ≡ (record_in a k).id) → ((k : ℕ) → eqb t k ≡ false → (record_in a k).id ≡ (record_in b t).id → (record_in b t).id ≢ 0 → ⊥) → UniqueIds a → UniqueIds b
ids_set t a b e n h i k p z = ⊎_elim
    (λ (ti : eqb t i ≡ true). let qi = eqb-true t i ti in ⊎_elim
    (λ (tk : eqb t k ≡ true). sym qi ∙ eqb-true t k tk)
    (λ (tk : eqb t k ≡ false). let w : (record_in b t).id ≡ (record_in b i).id = ap (λ (j : ℕ). (record_in b j).id) qi in absurd (n k tk (sym (e k tk) ∙ sym p ∙ sym w) (λ q. z (sym w ∙ q)))) (cases_Bool (eqb t k)))
    (λ (ti : eqb t i ≡ false). ⊎_elim
    (λ (tk : eqb t k ≡ true). let w : (record_in b t).id ≡ (record_in b k).id = ap (λ (j : ℕ). (record_in b j).id) (eqb-true t k tk) in absurd (n i ti (sym (e i ti) ∙ p ∙ sym w) (λ q. z (p ∙ sym w ∙ q))))
    (λ (tk : eqb t k ≡ false). h i k (sym (e i ti) ∙ p ∙ e k tk) (λ q. z (e i ti ∙ q))) (cases_Bool (eqb t k)))
    (cases_Bool (eqb t i))

alone : (t k : ℕ) → eqb t k ≡ false → has k (t ∷ []) ≡ false
alone t k h = grind arith

made_record : (k t : ℕ) (x : Task) (a : Table) → k < length a.tasks → record_in (choose (link k (link t (stop (change k (λ _. x) (take_free a)))))) k ≡ x
unfolding choose link stop take_free
made_record k t x a l = record_same k (λ _. x) (take_free a) l

-- a cleared record is blank, and so is one past the end
cleared : (t : ℕ) (a : Table) → record_in (clear t a) t ≡ blank
unfolding put_free change
cleared t a = ⊎_elim
    (λ (l : t < length a.tasks). get_or-set_same a.tasks t blank blank l)
    (λ (l : length a.tasks ≤ t). get_or_past (set a.tasks t blank) t blank (let e = length-set a.tasks t blank in omega arith))
    (cases_lt t (length a.tasks))

turned_clear : (t : ℕ) (a : Table) → record_in (turn (clear t a)) t ≡ blank
turned_clear t a = same-tasks (λ x. x) (turn (clear t a)) (clear t a) t (tasks-turn (clear t a)) ∙ cleared t a

module _ {s : State} (h : Sound s) where
  keeps : {x : Step} {d : Done} (w : Shape s x d) → touched w ≡ [] → UniqueIds d.state.table
  keeps {x} {d} w e = ids_like s.table d.state.table (λ k. untouched (λ x. x.id) id_light w k (ap (has k) e)) h.unique_ids

  keeps-all : {x : Step} {d : Done} (w : Shape s x d) → ((k : ℕ) → (task_of d.state k).id ≡ (task_of s k).id) → UniqueIds d.state.table
  keeps-all {x} {d} w e = ids_like s.table d.state.table e h.unique_ids

  touches : {x : Step} {d : Done} (w : Shape s x d) (t : ℕ) → touched w ≡ t ∷ [] → ((k : ℕ) → (record_in s.table k).id ≡ (task_of d.state t).id → (task_of d.state t).id ≢ 0 → ⊥) → UniqueIds d.state.table
  touches {x} {d} w t e n = ids_set t s.table d.state.table (λ k ne. untouched (λ x. x.id) id_light w k (ap (has k) e ∙ alone t k ne)) (λ k _. n k) h.unique_ids

  clears : {x : Step} {d : Done} (w : Shape s x d) (t : ℕ) → touched w ≡ t ∷ [] → (task_of d.state t).id ≡ 0 → UniqueIds d.state.table
  clears w t e z = touches w t e (λ k _ nz. nz z)

  first_in : (k : ℕ) (ks : List ℕ) → s.table.free ≡ k ∷ ks → k < length s.table.tasks
  unfolding in_table
  first_in k ks f = let o = h.one_place k in let z : count k s.table.free ≡ one k k + count k ks = ap (count k) f in let i = one_same k in grind (arith, nat_tests)

  -- no record has an id that finds nobody
  new_id : (id j : ℕ) → lookup id s.table ≡ None → (record_in s.table j).id ≡ id → id ≢ 0 → ⊥
  new_id id j n q nz = ⊎_elim
      (λ (fr : has j s.table.free ≡ true). nz (sym q ∙ ap (λ (x : Task). x.id) (h.free_are_blank j fr)))
      (λ (fr : has j s.table.free ≡ false). ⊎_elim
      (λ (l : j < length s.table.tasks). absent id j s.table n (ne_eqb id 0 nz) l fr q)
      (λ (l : length s.table.tasks ≤ j). nz (sym q ∙ ap (λ (x : Task). x.id) (get_or_past s.table.tasks j blank l))) (cases_lt j (length s.table.tasks)))
      (cases_Bool (has j s.table.free))

  ids_step : {x : Step} {d : Done} → Shape s x d → UniqueIds d.state.table
  ids_step (refuses x r) = h.unique_ids
  ids_step (tells-only x n q) = h.unique_ids
  ids_step (creates t k ks id level start message e f n) =
      let made : (task_of (grant k (making t k (new_task id (or_else (level_of s t) level) start message)) s).state k).id ≡ id = ap (λ (x : Task). x.id) (made_record k t (new_task id (or_else (level_of s t) level) start message) s.table (first_in k ks f)) in
      touches (creates t k ks id level start message e f n) k refl (λ j q nz. new_id id j n (q ∙ made) (λ z. nz (made ∙ z)))
  ids_step (kills x t q e) = clears (kills x t q e) t refl (ap (λ (x : Task). x.id) (turned_clear t (stop s.table)))
  ids_step (suspends x t q e) = keeps (suspends x t q e) refl
  ids_step (levels x t level q e) = keeps (levels x t level q e) refl
  ids_step (turns x t q e) = keeps (turns x t q e) refl
  ids_step (kills-other id t k e n f a) = clears (kills-other id t k e n f a) k refl (ap (λ (x : Task). x.id) (turned_clear k (unsuspend k (take_out k s.table))))
  ids_step (readies_other id t k e n f) = keeps (readies_other id t k e n f) refl
  ids_step (suspends-other id t k e n f) = keeps (suspends-other id t k e n f) refl
  ids_step (levels-other id t k level e n f) = keeps (levels-other id t k level e n f) refl
  ids_step (posts t c m stay e a b n) = keeps (posts t c m stay e a b n) refl
  ids_step (delivers t c m stay e a b n) = keeps (delivers t c m stay e a b n) refl
  ids_step (awaits t c e a) = keeps (awaits t c e a) refl
  ids_step (takes t c e a) = keeps (takes t c e a) refl
  ids_step (delays t n e a) = keeps (delays t n e a) refl
  ids_step (ticks a) = keeps (ticks a) refl
  ids_step (asks t u y k bytes size e l a) = let b = change t (with_transfer k bytes) (stop s.table) in
      keeps-all (asks t u y k bytes size e l a) (λ j. same_turn (λ x. x.id) b s.table j (same-change (λ x. x.id) t j (with_transfer k bytes) (stop s.table) refl ∙ same_stop (λ x. x.id) s.table j))
  ids_step (goes_on u r rs l q a) = keeps-all (goes_on u r rs l q a) (λ j. same-change (λ x. x.id) r.task j (with_bytes (move_of u r s).bytes) s.table refl)
  ids_step (ends u r rs o l q a) = let b = change r.task (with_outcome (move_of u r s).bytes o) s.table in
      keeps-all (ends u r rs o l q a) (λ j. same_turn (λ x. x.id) (release r.task b) s.table j
      (same-tasks (λ x. x.id) (release r.task b) b j (tasks-release r.task b) ∙ same-change (λ x. x.id) r.task j (with_outcome (move_of u r s).bytes o) s.table refl))

-- Transfer bytes --------------------------------------------------------------------------------------------------------------
bytes_light : Light (λ x. x.bytes)
bytes_light = record { level = λ l x. refl; mark = λ b x. refl; word = λ m x. refl }

asked-few : (y : transfer.Transfer (List ℕ)) (k : TransferKind) (bytes : List ℕ) (size : ℕ) → Asked y k bytes size → length bytes ≤ longest
asked-few y k bytes size a = ⊎_elim (λ (w : writes (Some k) ≡ true). let l = a.long w in let m = a.most in omega arith) (λ (w : writes (Some k) ≡ false). let l = ap length (a.unread w) in omega arith) (cases_Bool (writes (Some k)))

take-few : (xs : List ℕ) → length (take 1 xs) ≤ 1
take-few [] = omega arith
take-few (x ∷ xs) = omega arith

moved-few : (s : State) → Sound s → (u : ℕ) (r : Request) (rs : List Request) → queue_of s u ≡ r ∷ rs → length (move_of u r s).bytes ≤ longest
moved-few s h u r rs q =
    let b = (task_of s r.task).bytes in
    let f = fitting (task_of s r.task) r (and_parts (fits (task_of s r.task) r) (all_fit s.table rs) (subst (λ (l : List Request). all_fit s.table l ≡ true) q (h.requests u))).0 in
    let e : length (move_of u r s).bytes ≡ length b + length (had_from (writes (task_of s r.task).kind) (unit_of s u)) = ap length (moved u r s).bytes ∙ length-append b (had_from (writes (task_of s r.task).kind) (unit_of s u)) in
    go (writes (task_of s r.task).kind) f.long f.below f.small e (take-few (unit_of s u).coming)
  where
    go : (w : Bool) → length (task_of s r.task).bytes ≡ cond w r.size r.moved → r.moved < r.size → r.size ≤ longest → length (move_of u r s).bytes ≡ length (task_of s r.task).bytes + length (had_from w (unit_of s u))
        → length (take 1 (unit_of s u).coming) ≤ 1 → length (move_of u r s).bytes ≤ longest
    go true a b c e f = omega arith
    go false a b c e f = omega arith

module _ {s : State} (h : Sound s) where
  few-keeps : {x : Step} {d : Done} (w : Shape s x d) → touched w ≡ [] → (k : ℕ) → length (task_of d.state k).bytes ≤ longest
  few-keeps w e k = let z = ap length (untouched (λ x. x.bytes) bytes_light w k (ap (has k) e)) in let f = h.few_bytes k in omega arith

  few-touches : {x : Step} {d : Done} (w : Shape s x d) (t : ℕ) → touched w ≡ t ∷ [] → length (task_of d.state t).bytes ≤ longest → (k : ℕ) → length (task_of d.state k).bytes ≤ longest
  few-touches {x} {d} w t e l k = ⊎_elim
      (λ (b : eqb t k ≡ true). subst (λ (j : ℕ). length (task_of d.state j).bytes ≤ longest) (eqb-true t k b) l)
      (λ (b : eqb t k ≡ false). let z = ap length (untouched (λ x. x.bytes) bytes_light w k (ap (has k) e ∙ alone t k b)) in let f = h.few_bytes k in omega arith) (cases_Bool (eqb t k))

  few-step : {x : Step} {d : Done} → Shape s x d → (k : ℕ) → length (task_of d.state k).bytes ≤ longest
  few-step (refuses x r) = h.few_bytes
  few-step (tells-only x n q) = h.few_bytes
  few-step (creates t k ks id level start message e f n) = few-touches (creates t k ks id level start message e f n) k refl
      (let z = ap (λ (x : Task). length x.bytes) (made_record k t (new_task id (or_else (level_of s t) level) start message) s.table (first_in h k ks f)) in omega arith)
  few-step (kills x t q e) = few-touches (kills x t q e) t refl (let z = ap (λ (x : Task). length x.bytes) (turned_clear t (stop s.table)) in omega arith)
  few-step (suspends x t q e) = few-keeps (suspends x t q e) refl
  few-step (levels x t level q e) = few-keeps (levels x t level q e) refl
  few-step (turns x t q e) = few-keeps (turns x t q e) refl
  few-step (kills-other id t k e n f a) = few-touches (kills-other id t k e n f a) k refl (let z = ap (λ (x : Task). length x.bytes) (turned_clear k (unsuspend k (take_out k s.table))) in omega arith)
  few-step (readies_other id t k e n f) = few-keeps (readies_other id t k e n f) refl
  few-step (suspends-other id t k e n f) = few-keeps (suspends-other id t k e n f) refl
  few-step (levels-other id t k level e n f) = few-keeps (levels-other id t k level e n f) refl
  few-step (posts t c m stay e a b n) = few-keeps (posts t c m stay e a b n) refl
  few-step (delivers t c m stay e a b n) = few-keeps (delivers t c m stay e a b n) refl
  few-step (awaits t c e a) = few-keeps (awaits t c e a) refl
  few-step (takes t c e a) = few-keeps (takes t c e a) refl
  few-step (delays t n e a) = few-keeps (delays t n e a) refl
  few-step (ticks a) = few-keeps (ticks a) refl
  few-step (asks t u y k bytes size e l a) = few-touches (asks t u y k bytes size e l a) t refl
      (let z : length (task_of (asking t u k bytes size s).state t).bytes ≡ length bytes = ap (λ (p : Option TransferKind × List ℕ). length p.1) (asked-load s h t u k bytes size e) in let f = asked-few y k bytes size a in omega arith)
  few-step (goes_on u r rs l q a) = few-touches (goes_on u r rs l q a) r.task refl
      (let z : length (task_of (going_on u r rs (move_of u r s) s).state r.task).bytes ≡ length (move_of u r s).bytes = ap (λ (p : Option TransferKind × List ℕ). length p.1) (on-load s h u r rs (let w = h.queues in omega arith) q) in let f = moved-few s h u r rs q in omega arith)
  few-step (ends u r rs o l q a) = few-touches (ends u r rs o l q a) r.task refl
      (let z : length (task_of (ending u r rs (move_of u r s) o s).state r.task).bytes ≡ length (move_of u r s).bytes = ap (λ (p : Option TransferKind × List ℕ). length p.1) (end-load s h u r rs (let w = h.queues in omega arith) q o) in let f = moved-few s h u r rs q in omega arith)

-- Runs ------------------------------------------------------------------------------------------------------------------------

-- what a step makes of a sound state, in a table that is tidy after some deeds
sound-after : (ds : List Deed) (s : State) (x : Step) → Lawful x → Sound s → Kept ds s (apply x s) → Sound (apply x s).state
sound-after ds s x ok h k =
    let w = shape s x in
    let c = timely_step w ok (record { sorts = h.clock_sorted; dues = h.dues; bound = h.clock }) in
    let z = sizes_step w (record { cells = h.cells; requests = h.queues; four = h.units }) in
    record {
      one_place = λ j. k.places j ∙ h.one_place j ∙ ap (λ (n : ℕ). cond (ltb j n) 1 0) (sym k.size);
      marks = k.tidy.marks;
      free_are_blank = k.tidy.blanks;
      unique_ids = ids_step h w;
      ready_sorted = k.tidy.sorted;
      clock_sorted = c.sorts;
      dues = c.dues;
      clock = c.bound;
      few_bytes = few-step h w;
      requests = requests-step s h w;
      cells = z.cells;
      queues = z.requests;
      units = z.four;
    }

-- a sound state has a tidy table: its ready chain may have come about by links alone
tidy_so : (s : State) → Sound s → Tidy (map (link_of (level_of s) s.table.ready) s.table.ready) s.table
tidy_so s h = record {
  once = few;
  blanks = h.free_are_blank;
  marks = h.marks;
  sorted = h.ready_sorted;
  placed = λ t i. placed_so (level_of s) s.table.ready t s.table.ready [] h.ready_sorted (ready-once t s.table (few t)) i;
}
  where
    few : (k : ℕ) → in_table k s.table ≤ 1
    few k = let o = h.one_place k in grind (arith, nat_tests)

kept_so : (s : State) (x : Step) (h : Sound s) → Kept (map (link_of (level_of s) s.table.ready) s.table.ready) s (apply x s)
kept_so s x h = kept_step (map (link_of (level_of s) s.table.ready) s.table.ready) s h.one_place (tidy_so s h) h.queues (shape s x)

-- each lawful step from any sound state comes to a sound one
pub sound-step : (s : State) (x : Step) → Lawful x → Sound s → Sound (apply x s).state
sound-step s x ok h = sound-after (map (link_of (level_of s) s.table.ready) s.table.ready) s x ok h (kept_so s x h)

-- and the running task ranks first again
pub foremost-step : (s : State) (x : Step) → Sound s → Foremost s s.table.running → Foremost (apply x s).state (apply x s).state.table.running
foremost-step s x h f = (kept_so s x h).fore f

-- there are as many records as before
pub size_step : (s : State) (x : Step) → Sound s → length (apply x s).state.table.tasks ≡ length s.table.tasks
size_step s x h = (kept_so s x h).size

-- a state that a run has come to with the deeds ds
pub record Good (ds : List Deed) (s : State) : Type 0 where
  pub sound : Sound s
  pub tidy : Tidy ds s.table
  pub fore : Foremost s s.table.running

good_step : (ds : List Deed) (s : State) (x : Step) → Lawful x → Good ds s → Good (ds ++ (apply x s).deeds) (apply x s).state
good_step ds s x ok g =
    let k = kept_step ds s g.sound.one_place g.tidy g.sound.queues (shape s x) in
    record { sound = sound-after ds s x ok g.sound k; tidy = k.tidy; fore = k.fore g.fore }

good_run : (ds : List Deed) (s : State) (xs : List Step) → All Lawful xs → Good ds s → Good (ds ++ deeds_of (history s xs)) (after s xs)
good_run ds s [] ok g = subst (λ (l : List Deed). Good l s) (sym (append-nil ds)) g
good_run ds s (x ∷ xs) ok g =
    subst (λ (l : List Deed). Good l (after s (x ∷ xs))) (append_assoc ds (apply x s).deeds (deeds_of (history (apply x s).state xs)))
    (good_run (ds ++ (apply x s).deeds) (apply x s).state xs (All-tail Lawful x xs ok) (good_step ds s x (All-head Lawful x xs ok) g))

-- The start -------------------------------------------------------------------------------------------------------------------
all-blank : (n k : ℕ) → get_or (replicate n blank) k blank ≡ blank
all-blank zero k = refl
all-blank (suc n) zero = refl
all-blank (suc n) (suc k) = all-blank n k

count-rising : (k a n : ℕ) → count k (rising a n) ≡ cond (leb a k && ltb k (a + n)) 1 0
count-rising k a zero = grind (arith, nat_tests)
count-rising k a (suc n) = let ih = count-rising k (suc a) n in grind (arith, nat_tests)

begin-places : (n k : ℕ) (timed : Bool) (units : List Medium) → in_table k (begin (suc n) timed units).table ≡ cond (ltb k (suc n)) 1 0
unfolding in_table
begin-places n k timed units = let c = count-rising k 1 n in grind (arith, nat_tests)

pub good_begin : (n : ℕ) (timed : Bool) (units : List Medium) → 1 ≤ n → length units ≡ 4 → Good [] (begin n timed units)
good_begin zero timed units h f = let z : ⊥ = omega arith in absurd z
good_begin (suc n) timed units h f =
    let a = (begin (suc n) timed units).table in
    let unmarked : (k : ℕ) → (record_in a k).mark ≡ false = λ k. ap (λ (x : Task). x.mark) (all-blank (suc n) k) in
    let marks : Marks a = record { running = λ k e. unmarked k; ready = λ k e. absurd (false≢true e); free = λ k e. unmarked k; suspended = λ k e. absurd (false≢true e) } in
    let few : (k : ℕ) → in_table k a ≤ 1 = λ k. (let p = begin-places n k timed units in grind (arith, nat_tests)) in
    record {
      sound = record {
        one_place = λ k. let p = begin-places n k timed units in let l : length a.tasks ≡ suc n = length-replicate (suc n) blank in
            subst (λ (m : ℕ). in_table k a + 0 ≡ cond (ltb k m) 1 0) (sym l) (omega arith);
        marks = marks;
        free_are_blank = λ k e. all-blank (suc n) k;
        unique_ids = λ i k e z. absurd (z (ap (λ (x : Task). x.id) (all-blank (suc n) i)));
        ready_sorted = refl;
        clock_sorted = refl;
        dues = All-nil (Due 0);
        clock = omega arith;
        few_bytes = λ k. let z = ap (λ (x : Task). length x.bytes) (all-blank (suc n) k) in omega arith;
        requests = λ u. empty u;
        cells = refl;
        queues = refl;
        units = f;
      };
      tidy = record { once = few; blanks = λ k e. all-blank (suc n) k; marks = marks; sorted = refl; placed = λ t e. absurd (false≢true e) };
      fore = λ t e. absurd (false≢true e);
    }
  where
    empty : (u : ℕ) → all_fit (begin (suc n) timed units).table (queue_of (begin (suc n) timed units) u) ≡ true
    empty zero = refl
    empty (suc zero) = refl
    empty (suc (suc zero)) = refl
    empty (suc (suc (suc zero))) = refl
    empty (suc (suc (suc (suc u)))) = refl

-- a run from a start
pub good_after : (start : State) (past : List Step) → Started start → All Lawful past → Good (deeds_of (history start past)) (after start past)
good_after start past h ok = subst (λ (s : State). Good (deeds_of (history s past)) (after s past)) (sym h.is) (good_run [] (begin h.tasks h.timed h.units) past ok (good_begin h.tasks h.timed h.units h.some h.four))

pub soundness_law : OfEveryRun Soundness
soundness_law start past h ok = (good_after start past h ok).sound

pub foremost_law : OfEveryRun RunningRanksFirst
foremost_law start past h ok = (good_after start past h ok).fore

pub places_law : OfEveryRun ReadyPlaces
places_law start past h ok = (good_after start past h ok).tidy.placed

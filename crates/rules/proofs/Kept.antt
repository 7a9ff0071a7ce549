-- Each step keeps every record at its one place, the table tidy, and the running task first.
use Rattle.std.proofs.Common.{◌≡◌, ℕ, ◌+◌, ◌<◌, ◌≤◌, Bool, true, false, cond, eqb, List, [], ◌∷◌, ◌++◌, length, set, Some, None, Option, sym, refl, ap, ◌∙◌, subst, ⊎_elim, append_assoc, arith}
use Rattle.std.specs.Option.{option_to_list}
use Rattle.std.proofs.lemmas.Bool.{cases_Bool, cond-false, cond-true, eqb-true, eqb-false, false≢true}
use Rattle.std.proofs.lemmas.Bool.Decides.{nat_tests}
use Rattle.calls.specs.declared.call.TransferKind.{TransferKind}
use Rattle.calls.specs.declared.outcome.Outcome.{Outcome}
use Rattle.chain.specs.Lists.{count, first, has, one}
use Rattle.chain.proofs.Members.{none-count, count_none}
use Rattle.rules.specs.State.{Request, on_table, with_clock, with_queues, with_sleeping, State, Table, Task, blank, level_in, level_of, queue_of, record_in, with_bytes, with_cells, with_level, with_mark, with_outcome, with_transfer, with_word, word_of}
use Rattle.rules.specs.Tables.{change, choose, clear, level_other, link, put_free, ready_other, stop, suspend, suspend_other, take_free, take_out, unsuspend}
use Rattle.rules.specs.Acts.{Act, Deed, Done, chose, handing_all, tell, ◌then◌, done, grant, killing_other, levelling_other, linking, plain, readying_other, releasing, releasing_all, suspending_other, taking_out, turning}
use Rattle.rules.specs.Records.{all_askers, askers, leave_waits, making, new_task, or_else, sleepers, waiters}
use Rattle.rules.specs.Mail.{awaiting, delivering, empty_cell, join_cell, leave_first, posting, put_word, taking, waiting_at}
use Rattle.rules.specs.Clock.{due_next, join_clock, later_than}
use Rattle.rules.specs.Transfers.{Move, asking, at_unit, ending, enqueue, going_on, move_of}
use Rattle.rules.specs.Rules.{Step}
use Rattle.rules.specs.Sound.{OnePlace, in_table, in_waits}
use Rattle.rules.specs.Laws.{Foremost}
use Rattle.rules.proofs.Counts.{count-gone, in_change, in_choose, in_hand_all, in_link, in_put_free, in_release, in_release_all, in_stopped, in_suspend, in_take_free, in_take_out, in_turn, in_unsuspend, one_same, size-change, tasks-link, tasks-release, tasks-release_all, tasks-suspend, tasks-turn}
use Rattle.rules.proofs.Tidy.{Tidy, chosen, level-is, record_other, record_same, size-hand_all, tidy-away, tidy-change, tidy-hand_all, tidy-link, tidy_nil, tidy-put_free, tidy-release, tidy-release_all, tidy-stop, tidy-suspend, tidy-take_free, tidy-take_out, tidy-then, tidy-unsuspend, turned}
use Rattle.rules.proofs.Waits.{count_at, count-due, count-enqueue, count-last, count-longest, count-one_queue, count_queue, count_sleep, found, sleepers-without, waiters-without}
use Rattle.rules.proofs.Shapes.{Shape, refuses, tells-only, creates, kills, suspends, levels, turns, kills-other, readies_other, suspends-other, levels-other, posts, delivers, awaits, takes, delays, ticks, asks, goes_on, ends}

-- how often a record stands anywhere
abbrev pub places : ℕ → State → ℕ
places k s = in_table k s.table + in_waits k s

pub record Kept (ds : List Deed) (s : State) (d : Done) : Type 0 where
  pub tidy : Tidy (ds ++ d.deeds) d.state.table
  pub fore : Foremost s s.table.running → Foremost d.state d.state.table.running
  pub places : (k : ℕ) → places k d.state ≡ places k s
  pub size : length d.state.table.tasks ≡ length s.table.tasks

run_in : (t : ℕ) (a : Table) → a.running ≡ Some t → 1 ≤ in_table t a
unfolding in_table
run_in t a e = let z : count t (option_to_list a.running) ≡ one t t + 0 = ap (λ (o : Option ℕ). count t (option_to_list o)) e in let o = one_same t in omega arith

free_in : (k : ℕ) (ks : List ℕ) (a : Table) → a.free ≡ k ∷ ks → 1 ≤ in_table k a
unfolding in_table
free_in k ks a e = let z : count k a.free ≡ one k k + count k ks = ap (count k) e in let o = one_same k in omega arith

-- the running task is in no chain
run_only : (t : ℕ) (a : Table) → a.running ≡ Some t → in_table t a ≤ 1 → (has t a.free ≡ false) × ((has t a.ready ≡ false) × (has t a.suspended ≡ false))
unfolding in_table
run_only t a e h =
    let z : count t (option_to_list a.running) ≡ one t t + 0 = ap (λ (o : Option ℕ). count t (option_to_list o)) e in let o = one_same t in
    (count_none t a.free (omega arith), (count_none t a.ready (omega arith), count_none t a.suspended (omega arith)))

two_run : (t k : ℕ) (a : Table) → a.running ≡ Some t → eqb k t ≡ false → a.running ≡ Some k → ⊥
two_run t k a e n f = let q : t ≡ k = cc in eqb-false k t n (sym q)

-- the killed: it leaves the ready and the suspended chain
in_killed : (j k : ℕ) (a : Table) → in_table k a ≤ 1 → has k a.free ≡ false → (a.running ≡ Some k → ⊥) → in_table j (unsuspend k (take_out k a)) ≡ cond (eqb j k) 0 (in_table j a)
unfolding in_table unsuspend take_out
in_killed j k a o f r =
    let x = count-gone j k a.ready (omega arith) in let y = count-gone j k a.suspended (omega arith) in
    let z = none-count k a.free f in
    let z' : eqb j k ≡ true → count j a.free ≡ 0 = λ q. subst (λ (i : ℕ). count i a.free ≡ 0) (sym (eqb-true j k q)) z in
    let w = idle a.running refl in
    let w' : eqb j k ≡ true → count j (option_to_list a.running) ≡ 0 = λ q. subst (λ (i : ℕ). count i (option_to_list a.running) ≡ 0) (sym (eqb-true j k q)) w in
    grind (arith, nat_tests)
  where
    idle : (o : Option ℕ) → a.running ≡ o → count k (option_to_list o) ≡ 0
    idle None e = refl
    idle (Some t) e = let q : eqb k t ≡ true → ⊥ = λ b. r (e ∙ ap Some (sym (eqb-true k t b))) in grind (arith, nat_tests)

size_killed : (k : ℕ) (a : Table) → (unsuspend k (take_out k a)).tasks ≡ a.tasks
unfolding unsuspend take_out
size_killed k a = refl

size-stop : (a : Table) → (stop a).tasks ≡ a.tasks
unfolding stop
size-stop a = refl

size-take_out : (k : ℕ) (a : Table) → (take_out k a).tasks ≡ a.tasks
unfolding take_out
size-take_out k a = refl

size-unsuspend : (k : ℕ) (a : Table) → (unsuspend k a).tasks ≡ a.tasks
unfolding unsuspend
size-unsuspend k a = refl

size-take_free : (a : Table) → (take_free a).tasks ≡ a.tasks
unfolding take_free
size-take_free a = refl

size-put_free : (k : ℕ) (a : Table) → (put_free k a).tasks ≡ a.tasks
unfolding put_free
size-put_free k a = refl

changed-running : (k : ℕ) (x : Task) (a : Table) → (change k (λ _. x) (take_free a)).running ≡ a.running
unfolding change take_free
changed-running k x a = refl

stop_record : (t : ℕ) (a : Table) → (record_in a t).mark ≡ false → (record_in (stop a) t).mark ≡ false
unfolding stop
stop_record t a e = e

free_record : (t : ℕ) (a : Table) → (record_in a t).mark ≡ false → (record_in (take_free a) t).mark ≡ false
unfolding take_free
free_record t a e = e

link_record : (t k : ℕ) (a : Table) → (record_in a k).mark ≡ false → (record_in (link t a) k).mark ≡ false
unfolding link
link_record t k a e = e

linked-running : (k t : ℕ) (a : Table) → (link k (link t (stop a))).running ≡ None
unfolding link stop
linked-running k t a = refl

made_size : (k t : ℕ) (x : Task) (a : Table) → length (choose (link k (link t (stop (change k (λ _. x) (take_free a)))))).tasks ≡ length a.tasks
unfolding choose link stop take_free
made_size k t x a = size-change k (λ _. x) (take_free a)

-- what the calls by id come to, by where the task stands
readied : (k : ℕ) (a : Table) → has k a.suspended ≡ true → ((readying_other k).tells a ≡ (linking k).tells (change k (with_mark false) (unsuspend k a))) × (ready_other k a ≡ link k (change k (with_mark false) (unsuspend k a)))
unfolding ready_other
readied k a i = (cond-true (has k a.suspended) _ _ i, cond-true (has k a.suspended) _ _ i)

not-readied : (k : ℕ) (a : Table) → has k a.suspended ≡ false → ((readying_other k).tells a ≡ []) × (ready_other k a ≡ change k (with_mark false) a)
unfolding ready_other
not-readied k a i = (cond-false (has k a.suspended) _ _ i, cond-false (has k a.suspended) _ _ i)

suspended : (k : ℕ) (a : Table) → has k a.ready ≡ true → suspend_other k a ≡ suspend k (change k (with_mark true) (take_out k a))
unfolding suspend_other
suspended k a i = cond-true (has k a.ready) _ _ i

not-suspended : (k : ℕ) (a : Table) → has k a.ready ≡ false → suspend_other k a ≡ change k (with_mark true) a
unfolding suspend_other
not-suspended k a i = cond-false (has k a.ready) _ _ i

no_deed : (k : ℕ) (a : Table) → has k a.ready ≡ false → (taking_out k).tells a ≡ []
no_deed k a i = cond-false (has k a.ready) _ _ i

levelled : (k l : ℕ) (a : Table) → has k a.ready ≡ true
    → ((levelling_other k l).tells a ≡ (taking_out k).tells a ++ (linking k).tells (change k (with_level l) (take_out k a))) × (level_other k l a ≡ link k (change k (with_level l) (take_out k a)))
unfolding level_other
levelled k l a i = (cond-true (has k a.ready) _ _ i, cond-true (has k a.ready) _ _ i)

not-levelled : (k l : ℕ) (a : Table) → has k a.ready ≡ false → ((levelling_other k l).tells a ≡ []) × (level_other k l a ≡ change k (with_level l) a)
unfolding level_other
not-levelled k l a i = (cond-false (has k a.ready) _ _ i, cond-false (has k a.ready) _ _ i)

out_record : (k : ℕ) (a : Table) → (record_in a k).mark ≡ false → (record_in (take_out k a) k).mark ≡ false
unfolding take_out
out_record k a e = e

changed-runs : (t : ℕ) (f : Task → Task) (a : Table) → (change t f a).running ≡ a.running
unfolding change
changed-runs t f a = refl

changed-ready : (t : ℕ) (f : Task → Task) (a : Table) → (change t f a).ready ≡ a.ready
unfolding change
changed-ready t f a = refl

-- a change of a record that keeps its level
pub levels-changed : (t : ℕ) (f : Task → Task) (a : Table) → ((x : Task) → (f x).level ≡ x.level) → t < length a.tasks → (k : ℕ) → level_in (change t f a) k ≡ level_in a k
levels-changed t f a g l k = level-is (change t f a).tasks k ∙ go ∙ sym (level-is a.tasks k)
  where
    go : (record_in (change t f a) k).level ≡ (record_in a k).level
    go = ⊎_elim
        (λ (e : eqb t k ≡ true). subst (λ (j : ℕ). (record_in (change t f a) j).level ≡ (record_in a j).level) (eqb-true t k e) (ap (λ (x : Task). x.level) (record_same t f a l) ∙ g (record_in a t)))
        (λ (e : eqb t k ≡ false). ap (λ (x : Task). x.level) (record_other t k f a e)) (cases_Bool (eqb t k))

fore-changed : (t : ℕ) (f : Task → Task) (s : State) → ((x : Task) → (f x).level ≡ x.level) → t < length s.table.tasks → Foremost s s.table.running → Foremost (on_table (change t f) s) (change t f s.table).running
fore-changed t f s g l h = subst (Foremost (on_table (change t f) s)) (sym (changed-runs t f s.table)) (go s.table.running h)
  where
    go : (o : Option ℕ) → Foremost s o → Foremost (on_table (change t f) s) o
    go None h = changed-ready t f s.table ∙ h
    go (Some r) h = λ k i. let a = h k (subst (λ (xs : List ℕ). has k xs ≡ true) (changed-ready t f s.table) i) in
        let x = levels-changed t f s.table g l k in let y = levels-changed t f s.table g l r in omega arith

module _ (ds : List Deed) (s : State) (one_place : OnePlace s) (h : Tidy ds s.table) where
  pub most : (k : ℕ) → places k s ≤ 1
  most k = let e = one_place k in grind (arith, nat_tests)

  pub inside : (k : ℕ) → 1 ≤ places k s → k < length s.table.tasks
  inside k i = let e = one_place k in grind (arith, nat_tests)

  -- a granted step that ends with a turn
  ended : (n : ℕ) (act : Act) (s' : State) → Tidy (ds ++ act.tells s'.table) (act.does s'.table) → ((k : ℕ) → in_table k (act.does s'.table) + in_waits k s' ≡ places k s)
      → length (act.does s'.table).tasks ≡ length s.table.tasks → Kept ds s (done n act s')
  ended n act s' t p l =
      let c = turned (ds ++ act.tells s'.table) (act.does s'.table) t in
      record { tidy = tidy-then ds (act.tells s'.table) (turning.tells (act.does s'.table)) c.tidy; fore = λ _. c.fore s'; places = λ k. let e = in_turn k (act.does s'.table) in let q = p k in omega arith; size = ap length (tasks-turn (act.does s'.table)) ∙ l }

  -- The caller ----------------------------------------------------------------------------------------------------------------
  module _ (t : ℕ) (e : s.table.running ≡ Some t) where
    caller_in : t < length s.table.tasks
    caller_in = inside t (let r = run_in t s.table e in omega arith)

    stopped_none : in_table t (stop s.table) ≡ 0
    stopped_none = let c = in_stopped t s.table t e in let o = one_same t in let m = most t in omega arith

    stopped_in : t < length (stop s.table).tasks
    stopped_in = subst (λ (xs : List Task). t < length xs) (sym (size-stop s.table)) caller_in

    -- the caller stops and its record is changed in any way
    caller-away : (f : Task → Task) → Tidy ds (change t f (stop s.table))
    caller-away f = tidy-away t f (stop s.table) stopped_in stopped_none (tidy-stop s.table h)

    size-away : (f : Task → Task) → length (change t f (stop s.table)).tasks ≡ length s.table.tasks
    size-away f = size-change t f (stop s.table) ∙ ap length (size-stop s.table)

    in_away : (k : ℕ) (f : Task → Task) → in_table k (change t f (stop s.table)) + one k t ≡ in_table k s.table
    in_away k f = let c = in_change k t f (stop s.table) in let d = in_stopped k s.table t e in omega arith

    kept_kill : Kept ds s (done 0 (plain (λ a. clear t (stop a))) s)
    kept_kill =
        let b = change t (λ _. blank) (stop s.table) in
        let z : in_table t b ≡ 0 = (let c = in_change t t (λ _. blank) (stop s.table) in let d = stopped_none in omega arith) in
        ended 0 (plain (λ a. clear t (stop a))) s
        (tidy_nil (tidy-put_free t b z (record_same t (λ _. blank) (stop s.table) stopped_in) (caller-away (λ _. blank))))
        (λ k. omega (arith, in_put_free k t b, in_away k (λ _. blank))) (ap length (size-put_free t b) ∙ size-away (λ _. blank))

    kept-suspend : Kept ds s (done 0 (plain (λ a. suspend t (change t (with_mark true) (stop a)))) s)
    kept-suspend =
        let b = change t (with_mark true) (stop s.table) in
        let z : in_table t b ≡ 0 = (let c = in_change t t (with_mark true) (stop s.table) in let d = stopped_none in omega arith) in
        ended 0 (plain (λ a. suspend t (change t (with_mark true) (stop a)))) s
        (tidy_nil (tidy-suspend t b z (ap (λ (x : Task). x.mark) (record_same t (with_mark true) (stop s.table) stopped_in)) (caller-away (with_mark true))))
        (λ k. omega (arith, in_suspend k t b, in_away k (with_mark true))) (ap length (tasks-suspend t b) ∙ size-away (with_mark true))

    -- a change of the caller's record that keeps its mark
    caller-change : (f : Task → Task) → ((x : Task) → (f x).mark ≡ x.mark) → Tidy ds (change t f s.table)
    caller-change f m =
        let r = run_only t s.table e (let o = most t in omega arith) in
        tidy-change t f s.table caller_in (λ i. absurd (false≢true (sym r.0 ∙ i))) (λ _. m (record_in s.table t) ∙ h.marks.running t e)
        (λ i. absurd (false≢true (sym r.1.0 ∙ i))) (λ i. absurd (false≢true (sym r.1.1 ∙ i))) h

    kept-level : (l : ℕ) → Kept ds s (done 0 (plain (change t (with_level l))) s)
    kept-level l = ended 0 (plain (change t (with_level l))) s (tidy_nil (caller-change (with_level l) (λ _. refl))) (λ k. let c = in_change k t (with_level l) s.table in omega arith) (size-change t (with_level l) s.table)

    -- the caller waits
    kept-stop : (s' : State) → s'.table ≡ s.table → ((k : ℕ) → in_waits k s' ≡ one k t + in_waits k s) → Kept ds s (done 0 (plain stop) s')
    kept-stop s' q p = ended 0 (plain stop) s' (tidy_nil (subst (λ (a : Table). Tidy ds (stop a)) (sym q) (tidy-stop s.table h)))
        (λ k. subst (λ (a : Table). in_table k (stop a) + in_waits k s' ≡ places k s) (sym q) (let c = in_stopped k s.table t e in let d = p k in omega arith))
        (ap (λ (a : Table). length (stop a).tasks) q ∙ ap length (size-stop s.table))

    -- a free record is another than the caller's
    not-running : (k : ℕ) (ks : List ℕ) → s.table.free ≡ k ∷ ks → eqb k t ≡ false
    not-running k ks f = ⊎_elim
        (λ (q : eqb k t ≡ true). let r = (run_only t s.table e (let o = most t in omega arith)).0 in
        let w : has t s.table.free ≡ true = subst (λ (xs : List ℕ). has t xs ≡ true) (sym f) (grind (arith, nat_tests)) in absurd (false≢true (sym r ∙ w)))
        (λ (q : eqb k t ≡ false). q) (cases_Bool (eqb k t))

    kept_create : (k : ℕ) (ks : List ℕ) (x : Task) → s.table.free ≡ k ∷ ks → x.mark ≡ false → Kept ds s (grant k (making t k x) s)
    kept_create k ks x f m =
        let a = s.table in
        let a0 = take_free a in
        let a1 = change k (λ _. x) a0 in
        let a2 = stop a1 in
        let a3 = link t a2 in
        let kin = free_in k ks a f in
        let apart : eqb k t ≡ false = not-running k ks f in
        let z0 : in_table k a0 ≡ 0 = (let c = in_take_free k k ks a f in let o = one_same k in let w = most k in omega arith) in
        let l0 : k < length a0.tasks = subst (λ (xs : List Task). k < length xs) (sym (size-take_free a)) (inside k (omega arith)) in
        let h1 = tidy-away k (λ _. x) a0 l0 z0 (tidy-take_free k ks a f h) in
        let h2 = tidy-stop a1 h1 in
        let r1 : a1.running ≡ Some t = changed-running k x a ∙ e in
        let z2 : (j : ℕ) → in_table j a2 + one j t + one j k ≡ in_table j a = λ j. omega (arith, in_stopped j a1 t r1, in_change j k (λ _. x) a0, in_take_free j k ks a f) in
        let zt : in_table t a2 ≡ 0 = (let c = z2 t in let o = one_same t in let w = most t in omega arith) in
        let mt : (record_in a2 t).mark ≡ false = stop_record t a1 (ap (λ (y : Task). y.mark) (record_other k t (λ _. x) a0 apart) ∙ free_record t a (h.marks.running t e)) in
        let h3 = tidy-link t a2 zt mt h2 in
        let zk : in_table k a3 ≡ 0 = (let c = z2 k in let o = one_same k in let w = most k in let i = in_link k t a2 in omega arith) in
        let mk : (record_in a3 k).mark ≡ false = link_record t k a2 (stop_record k a1 (ap (λ (y : Task). y.mark) (record_same k (λ _. x) a0 l0) ∙ m)) in
        let h4 = tidy-link k a3 zk mk h3 in
        let c = chosen ((ds ++ (linking t).tells a2) ++ (linking k).tells a3) (link k a3) (linked-running k t a1) h4 in
        record {
          tidy = tidy-then ds ((linking t).tells a2 ++ (linking k).tells a3) (chose ∷ []) (subst (λ (l : List Deed). Tidy (l ++ chose ∷ []) (choose (link k a3))) (append_assoc ds ((linking t).tells a2) ((linking k).tells a3)) c.tidy);
          fore = λ _. c.fore s;
          places = λ j. omega (arith, in_choose j (link k a3) (linked-running k t a1), in_link j k a3, in_link j t a2, z2 j);
          size = made_size k t x a;
        }

  -- Another task --------------------------------------------------------------------------------------------------------------
  module _ (k : ℕ) (live : has k s.table.free ≡ false) (kin : k < length s.table.tasks) (idle : s.table.running ≡ Some k → ⊥) where
    few : in_table k s.table ≤ 1
    few = let o = most k in omega arith

    out_none : has k s.table.ready ≡ true → in_table k (take_out k s.table) ≡ 0
    out_none i = let c = in_take_out k k s.table i in let o = one_same k in let w = few in omega arith

    out_in : k < length (take_out k s.table).tasks
    out_in = subst (λ (xs : List Task). k < length xs) (sym (size-take_out k s.table)) kin

    kept_kill_other : has k (all_askers s.queues) ≡ false → Kept ds s (done 0 (killing_other k) (leave_waits k s))
    kept_kill_other q =
        let a = s.table in
        let b = unsuspend k (take_out k a) in
        let w = most k in
        let zb : in_table k b ≡ 0 = (let c = in_killed k k a few live idle in grind (arith, nat_tests)) in
        let lb : k < length b.tasks = subst (λ (xs : List Task). k < length xs) (sym (size_killed k a)) kin in
        let c = change k (λ _. blank) b in
        let zc : in_table k c ≡ 0 = in_change k k (λ _. blank) b ∙ zb in
        ended 0 (killing_other k) (leave_waits k s)
        (tidy-put_free k c zc (record_same k (λ _. blank) b lb) (tidy-away k (λ _. blank) b lb zb (tidy-unsuspend k (take_out k a) (tidy-take_out k a h))))
        (λ j. omega (arith, in_put_free j k c, in_change j k (λ _. blank) b, left j q))
        (ap length (size-put_free k c) ∙ size-change k (λ _. blank) b ∙ ap length (size_killed k a))
      where
        left : (j : ℕ) → has k (all_askers s.queues) ≡ false → one j k + in_table j (unsuspend k (take_out k s.table)) + in_waits j (leave_waits k s) ≡ places j s
        left j q =
            let w = most k in let o = one_place k in
            let x = in_killed j k s.table few live idle in
            let y : count j (sleepers (leave_waits k s).sleeping) ≡ cond (eqb j k) 0 (count j (sleepers s.sleeping)) = ap (count j) (sleepers-without k s.sleeping) ∙ count-gone j k (sleepers s.sleeping) (omega arith) in
            let v : count j (waiters (leave_waits k s).cells.waits) ≡ cond (eqb j k) 0 (count j (waiters s.cells.waits)) = ap (count j) (waiters-without k s.cells.waits) ∙ count-gone j k (waiters s.cells.waits) (omega arith) in
            let n = none-count k (all_askers s.queues) q in
            let p : places k s ≡ 1 = (let l = kin in grind (arith, nat_tests)) in
            let same : eqb j k ≡ true → (count j (all_askers s.queues) ≡ 0) × (places j s ≡ 1) = λ b. subst (λ (i : ℕ). (count i (all_askers s.queues) ≡ 0) × (places i s ≡ 1)) (sym (eqb-true j k b)) (n, p) in
            grind (arith, nat_tests)

    kept-ready-other : Kept ds s (done 0 (readying_other k) s)
    kept-ready-other = ⊎_elim yes no (cases_Bool (has k s.table.suspended))
      where
        yes : has k s.table.suspended ≡ true → Kept ds s (done 0 (readying_other k) s)
        yes i =
            let b = unsuspend k s.table in
            let zb : in_table k b ≡ 0 = (let c = in_unsuspend k k s.table i in let o = one_same k in let w = few in omega arith) in
            let lb : k < length b.tasks = subst (λ (xs : List Task). k < length xs) (sym (size-unsuspend k s.table)) kin in
            let c = change k (with_mark false) b in
            let t = readied k s.table i in
            ended 0 (readying_other k) s
            (subst (λ (l : List Deed). Tidy (ds ++ l) (ready_other k s.table)) (sym t.0) (subst (Tidy (ds ++ (linking k).tells c)) (sym t.1)
            (tidy-link k c (in_change k k (with_mark false) b ∙ zb) (ap (λ (x : Task). x.mark) (record_same k (with_mark false) b lb)) (tidy-away k (with_mark false) b lb zb (tidy-unsuspend k s.table h)))))
            (λ j. let q : in_table j (ready_other k s.table) ≡ in_table j (link k c) = ap (in_table j) t.1 in omega (arith, in_link j k c, in_change j k (with_mark false) b, in_unsuspend j k s.table i))
            (ap (λ (x : Table). length x.tasks) t.1 ∙ ap length (tasks-link k c) ∙ size-change k (with_mark false) b ∙ ap length (size-unsuspend k s.table))

        no : has k s.table.suspended ≡ false → Kept ds s (done 0 (readying_other k) s)
        no i =
            let t = not-readied k s.table i in
            ended 0 (readying_other k) s
            (subst (λ (l : List Deed). Tidy (ds ++ l) (ready_other k s.table)) (sym t.0) (subst (Tidy (ds ++ [])) (sym t.1) (tidy_nil
            (tidy-change k (with_mark false) s.table kin (λ f. absurd (false≢true (sym live ∙ f))) (λ _. refl) (λ _. (refl, refl)) (λ f. absurd (false≢true (sym i ∙ f))) h))))
            (λ j. let q : in_table j (ready_other k s.table) ≡ in_table j (change k (with_mark false) s.table) = ap (in_table j) t.1 in omega (arith, in_change j k (with_mark false) s.table))
            (ap (λ (x : Table). length x.tasks) t.1 ∙ size-change k (with_mark false) s.table)

    kept-suspend-other : Kept ds s (done 0 (suspending_other k) s)
    kept-suspend-other = ⊎_elim yes no (cases_Bool (has k s.table.ready))
      where
        yes : has k s.table.ready ≡ true → Kept ds s (done 0 (suspending_other k) s)
        yes i =
            let b = take_out k s.table in
            let c = change k (with_mark true) b in
            let t = suspended k s.table i in
            ended 0 (suspending_other k) s
            (subst (Tidy (ds ++ (taking_out k).tells s.table)) (sym t)
            (tidy-suspend k c (in_change k k (with_mark true) b ∙ out_none i) (ap (λ (x : Task). x.mark) (record_same k (with_mark true) b out_in)) (tidy-away k (with_mark true) b out_in (out_none i) (tidy-take_out k s.table h))))
            (λ j. let q : in_table j (suspend_other k s.table) ≡ in_table j (suspend k c) = ap (in_table j) t in omega (arith, in_suspend j k c, in_change j k (with_mark true) b, in_take_out j k s.table i))
            (ap (λ (x : Table). length x.tasks) t ∙ ap length (tasks-suspend k c) ∙ size-change k (with_mark true) b ∙ ap length (size-take_out k s.table))

        no : has k s.table.ready ≡ false → Kept ds s (done 0 (suspending_other k) s)
        no i =
            let t = not-suspended k s.table i in
            ended 0 (suspending_other k) s
            (subst (λ (l : List Deed). Tidy (ds ++ l) (suspend_other k s.table)) (sym (no_deed k s.table i)) (subst (Tidy (ds ++ [])) (sym t) (tidy_nil
            (tidy-change k (with_mark true) s.table kin (λ f. absurd (false≢true (sym live ∙ f))) (λ e. absurd (idle e)) (λ f. absurd (false≢true (sym i ∙ f))) (λ _. refl) h))))
            (λ j. let q : in_table j (suspend_other k s.table) ≡ in_table j (change k (with_mark true) s.table) = ap (in_table j) t in omega (arith, in_change j k (with_mark true) s.table))
            (ap (λ (x : Table). length x.tasks) t ∙ size-change k (with_mark true) s.table)

    kept-level-other : (l : ℕ) → Kept ds s (done 0 (levelling_other k l) s)
    kept-level-other l = ⊎_elim yes no (cases_Bool (has k s.table.ready))
      where
        yes : has k s.table.ready ≡ true → Kept ds s (done 0 (levelling_other k l) s)
        yes i =
            let b = take_out k s.table in
            let c = change k (with_level l) b in
            let t = levelled k l s.table i in
            let m : (record_in c k).mark ≡ false = ap (λ (x : Task). x.mark) (record_same k (with_level l) b out_in) ∙ out_record k s.table (h.marks.ready k i) in
            ended 0 (levelling_other k l) s
            (subst (λ (x : List Deed). Tidy (ds ++ x) (level_other k l s.table)) (sym t.0) (subst (Tidy (ds ++ ((taking_out k).tells s.table ++ (linking k).tells c))) (sym t.1)
            (tidy-then ds ((taking_out k).tells s.table) ((linking k).tells c)
            (tidy-link k c (in_change k k (with_level l) b ∙ out_none i) m (tidy-away k (with_level l) b out_in (out_none i) (tidy-take_out k s.table h))))))
            (λ j. let q : in_table j (level_other k l s.table) ≡ in_table j (link k c) = ap (in_table j) t.1 in omega (arith, in_link j k c, in_change j k (with_level l) b, in_take_out j k s.table i))
            (ap (λ (x : Table). length x.tasks) t.1 ∙ ap length (tasks-link k c) ∙ size-change k (with_level l) b ∙ ap length (size-take_out k s.table))

        no : has k s.table.ready ≡ false → Kept ds s (done 0 (levelling_other k l) s)
        no i =
            let t = not-levelled k l s.table i in
            ended 0 (levelling_other k l) s
            (subst (λ (x : List Deed). Tidy (ds ++ x) (level_other k l s.table)) (sym t.0) (subst (Tidy (ds ++ [])) (sym t.1) (tidy_nil
            (tidy-change k (with_level l) s.table kin (λ f. absurd (false≢true (sym live ∙ f))) (λ e. absurd (idle e)) (λ f. absurd (false≢true (sym i ∙ f))) (h.marks.suspended k) h))))
            (λ j. let q : in_table j (level_other k l s.table) ≡ in_table j (change k (with_level l) s.table) = ap (in_table j) t.1 in omega (arith, in_change j k (with_level l) s.table))
            (ap (λ (x : Table). length x.tasks) t.1 ∙ size-change k (with_level l) s.table)

  -- Cells and the clock -------------------------------------------------------------------------------------------------------
  kept_post : (t c m : ℕ) (stay : Bool) → s.table.running ≡ Some t → Kept ds s (posting t c m stay s)
  kept_post t c m true e = kept-stop t e (with_cells (join_cell t c (put_word c m s.cells)) s) refl (λ k. let x = count-last k t c s.cells.waits in omega arith)
  kept_post t c m false e = ended 0 (plain (λ a. a)) (with_cells (put_word c m s.cells) s) (tidy_nil h) (λ k. refl) refl

  kept_await : (t c : ℕ) → s.table.running ≡ Some t → Kept ds s (awaiting t c s)
  kept_await t c e = kept-stop t e (with_cells (join_cell t c s.cells) s) refl (λ k. let x = count-last k t c s.cells.waits in omega arith)

  kept_deliver : (c m : ℕ) → Kept ds s (delivering c m s)
  kept_deliver c m =
      let ts = waiting_at s c in
      ended 0 (handing_all m ts) (with_cells (empty_cell c s.cells) s)
      (tidy-hand_all ds m ts s.table (λ k i. let x = count_at k c s.cells.waits in inside k (omega arith)) (λ k. let x = count_at k c s.cells.waits in let o = most k in omega arith) h)
      (λ k. let x = count_at k c s.cells.waits in let y = in_hand_all k m ts s.table in omega arith) (size-hand_all m ts s.table)

  kept-take : (t c : ℕ) → s.table.running ≡ Some t → Kept ds s (taking t c s)
  kept-take t c e =
      let w = word_of s.cells c in
      let ts = option_to_list (first (waiting_at s c)) in
      let b = change t (with_word w) s.table in
      ended w (plain (change t (with_word w)) then releasing_all ts) (with_cells (leave_first c (put_word c 0 s.cells)) s)
      (tidy-release_all ds ts b (λ k. let x = count-longest k c s.cells.waits in let o = most k in let i = in_change k t (with_word w) s.table in omega arith) (caller-change t e (with_word w) (λ _. refl)))
      (λ k. let x = count-longest k c s.cells.waits in let i = in_change k t (with_word w) s.table in let y = in_release_all k ts b in omega arith)
      (ap length (tasks-release_all ts b) ∙ size-change t (with_word w) s.table)

  kept_delay : (t n : ℕ) → s.table.running ≡ Some t → Kept ds s (done 0 (plain stop) (with_sleeping (join_clock t (s.clock + n) s.sleeping) s))
  kept_delay t n e = kept-stop t e (with_sleeping (join_clock t (s.clock + n) s.sleeping) s) refl (λ k. let x = count_sleep k t (s.clock + n) s.sleeping in omega arith)

  kept_tick : Kept ds s (done (length (due_next s)) (releasing_all (due_next s)) (with_clock (s.clock + 1) (with_sleeping (later_than (s.clock + 1) s.sleeping) s)))
  kept_tick =
      ended (length (due_next s)) (releasing_all (due_next s)) (with_clock (s.clock + 1) (with_sleeping (later_than (s.clock + 1) s.sleeping) s))
      (tidy-release_all ds (due_next s) s.table (λ k. let x = count-due k (s.clock + 1) s.sleeping in let o = most k in omega arith) h)
      (λ k. let x = count-due k (s.clock + 1) s.sleeping in let y = in_release_all k (due_next s) s.table in omega arith) (ap length (tasks-release_all (due_next s) s.table))

  -- Units ---------------------------------------------------------------------------------------------------------------------
  module _ (u : ℕ) (low : u < length s.queues) where
    kept_ask : (t : ℕ) (k : TransferKind) (bytes : List ℕ) (size : ℕ) → s.table.running ≡ Some t → Kept ds s (asking t u k bytes size s)
    kept_ask t kd bytes size e =
        let r : Request = record { task = t; size = size; moved = 0 } in
        let f = with_transfer kd bytes in
        ended 0 (plain (λ a. change t f (stop a))) (with_queues (set s.queues u (enqueue r (queue_of s u))) s)
        (tidy_nil (caller-away t e f))
        (λ k. let x = count_queue k s.queues u (enqueue r (queue_of s u)) low in let y = count-enqueue k r (queue_of s u) in let z = in_away t e k f in omega arith)
        (size-away t e f)

    module _ (r : Request) (rs : List Request) (q : queue_of s u ≡ r ∷ rs) where
      in_queue : (k : ℕ) → count k (askers (queue_of s u)) ≡ one k r.task + count k (askers rs)
      in_queue k = ap (λ (x : List Request). count k (askers x)) q

      asker_none : in_table r.task s.table ≡ 0
      asker_none = let o = most r.task in let i = in_queue r.task in let j = one_same r.task in let x = count-one_queue r.task s.queues u low in omega arith

      pub asker_in : r.task < length s.table.tasks
      asker_in = let i = in_queue r.task in let j = one_same r.task in let x = count-one_queue r.task s.queues u low in inside r.task (omega arith)

      kept_on : (v : Move) → Kept ds s (going_on u r rs v s)
      kept_on v =
          let f = with_bytes v.bytes in
          let r' : Request = record { task = r.task; size = r.size; moved = v.moved } in
          let a = change r.task f s.table in
          record {
            tidy = tidy_nil (tidy-away r.task f s.table asker_in asker_none h);
            fore = fore-changed r.task f (at_unit u v.unit (r' ∷ rs) s) (λ _. refl) asker_in;
            places = λ k. let x = count_queue k s.queues u (r' ∷ rs) low in let i = in_queue k in let c = in_change k r.task f s.table in omega arith;
            size = size-change r.task f s.table;
          }

      kept-end : (v : Move) (o : Outcome) → Kept ds s (ending u r rs v o s)
      kept-end v o =
          let f = with_outcome v.bytes o in
          let b = change r.task f s.table in
          ended 1 (plain (change r.task f) then releasing r.task) (at_unit u v.unit rs s)
          (tidy-release r.task b (in_change r.task r.task f s.table ∙ asker_none) (tidy-away r.task f s.table asker_in asker_none h))
          (λ k. let x = count_queue k s.queues u rs low in let i = in_queue k in let c = in_change k r.task f s.table in let y = in_release k r.task b in omega arith)
          (ap length (tasks-release r.task b) ∙ size-change r.task f s.table)

  -- Every step ----------------------------------------------------------------------------------------------------------------
  same : (n : ℕ) → Kept ds s (tell n s)
  same n = record { tidy = tidy_nil h; fore = λ f. f; places = λ k. refl; size = refl }

  other_than : (t k : ℕ) → s.table.running ≡ Some t → eqb k t ≡ false → s.table.running ≡ Some k → ⊥
  other_than t k e n f = two_run t k s.table e n f

  pub kept_step : length s.queues ≡ 4 → {x : Step} {d : Done} → Shape s x d → Kept ds s d
  kept_step four (refuses x r) = record { tidy = tidy_nil h; fore = λ f. f; places = λ k. refl; size = refl }
  kept_step four (tells-only x n q) = same n
  kept_step four (creates t k ks id level start message e f n) = kept_create t e k ks (new_task id (or_else (level_of s t) level) start message) f refl
  kept_step four (kills x t q e) = kept_kill t e
  kept_step four (suspends x t q e) = kept-suspend t e
  kept_step four (levels x t level q e) = kept-level t e (or_else 1 level)
  kept_step four (turns x t q e) = ended 0 (plain (λ a. a)) s (tidy_nil h) (λ k. refl) refl
  kept_step four (kills-other id t k e n f a) = let w = found id k s.table f in kept_kill_other k w.live w.inside (other_than t k e n) a
  kept_step four (readies_other id t k e n f) = let w = found id k s.table f in kept-ready-other k w.live w.inside (other_than t k e n)
  kept_step four (suspends-other id t k e n f) = let w = found id k s.table f in kept-suspend-other k w.live w.inside (other_than t k e n)
  kept_step four (levels-other id t k level e n f) = let w = found id k s.table f in kept-level-other k w.live w.inside (other_than t k e n) (or_else 1 level)
  kept_step four (posts t c m stay e a b n) = kept_post t c m stay e
  kept_step four (delivers t c m stay e a b n) = kept_deliver c m
  kept_step four (awaits t c e a) = kept_await t c e
  kept_step four (takes t c e a) = kept-take t c e
  kept_step four (delays t n e a) = kept_delay t n e
  kept_step four (ticks a) = kept_tick
  kept_step four (asks t u y k bytes size e l a) = kept_ask u (omega arith) t k bytes size e
  kept_step four (goes_on u r rs l q a) = kept_on u (omega arith) r rs q (move_of u r s)
  kept_step four (ends u r rs o l q a) = kept-end u (omega arith) r rs q (move_of u r s) o

-- The requests at the units through each step: what the records hold of them, and that they fit.
use Rattle.std.proofs.Common.{◌≡◌, ℕ, ◌+◌, ◌<◌, ◌≤◌, Bool, true, false, cond, ◌&&◌, eqb, ltb, leb, ◌⊎◌, List, [], ◌∷◌, length, get_or, set, is_some, Some, None, Option, sym, refl, ap, ◌∙◌, subst, inl, inr, ⊎_elim, arith}
use Rattle.std.specs.Option.{option_to_list}
use Rattle.std.proofs.lemmas.List.{get_or_past, get_or-set_other, get_or-set_same, length-append, length-set}
use Rattle.std.proofs.lemmas.Bool.{and_from, and_parts, cases_Bool, cases_lt, eq-eqb, eqb-true, eqb-false}
use Rattle.std.proofs.lemmas.Bool.Decides.{nat_tests}
use Rattle.calls.specs.declared.call.Transfer as transfer
use Rattle.calls.specs.declared.call.TransferKind.{TransferKind}
use Rattle.calls.specs.declared.outcome.Outcome.{Outcome}
use Rattle.chain.specs.Lists.{count, one}
use Rattle.rules.specs.State.{Request, State, Table, Task, queue_of, record_in, task_of, unit_of, with_bytes, with_outcome, with_transfer}
use Rattle.rules.specs.Tables.{change, release, stop, turn}
use Rattle.rules.specs.Acts.{Done}
use Rattle.rules.specs.Records.{all_askers, askers}
use Rattle.rules.specs.Transfers.{asking, ending, enqueue, going_on, longest, move_of, writes}
use Rattle.rules.specs.Rules.{Step}
use Rattle.rules.specs.Sound.{Sound, all_fit, fits, in_table}
use Rattle.rules.proofs.Counts.{one_same, tasks-release, tasks-turn}
use Rattle.rules.proofs.Tidy.{record_same}
use Rattle.rules.proofs.Waits.{count-one_queue, count_queue}
use Rattle.rules.proofs.Fields.{same-other, same_stop, same-tasks, same_turn}
use Rattle.rules.proofs.Moves.{Apart, AtUnit, asks_it, had_from, load, moved, moves-last, moves-on, sorted-out}
use Rattle.rules.proofs.Shapes.{Asked, Shape}

-- a queue put anew
pub queue_here : (s : State) (u : ℕ) (q : List Request) → u < length s.queues → get_or (set s.queues u q) u [] ≡ q
queue_here s u q l = get_or-set_same s.queues u q [] l

pub queue_there : (s : State) (u v : ℕ) (q : List Request) → eqb u v ≡ false → get_or (set s.queues u q) v [] ≡ queue_of s v
queue_there s u v q e = get_or-set_other s.queues u v q [] (λ z. eqb-false u v e (sym z))

run_places : (t : ℕ) (a : Table) → a.running ≡ Some t → 1 ≤ in_table t a
unfolding in_table
run_places t a e = let z : count t (option_to_list a.running) ≡ one t t + 0 = ap (λ (o : Option ℕ). count t (option_to_list o)) e in let o = one_same t in omega arith

stop-length : (a : Table) → length (stop a).tasks ≡ length a.tasks
unfolding stop
stop-length a = refl

-- Who asks --------------------------------------------------------------------------------------------------------------------
module _ (s : State) (h : Sound s) where
  pub asker_of : (u k : ℕ) → 1 ≤ count k (askers (queue_of s u)) → 1 ≤ count k (all_askers s.queues)
  asker_of u k i = ⊎_elim
      (λ (l : u < length s.queues). let c = count-one_queue k s.queues u l in omega arith)
      (λ (l : length s.queues ≤ u). let e : count k (askers (queue_of s u)) ≡ 0 = ap (λ (q : List Request). count k (askers q)) (get_or_past s.queues u [] l) in let f : ⊥ = omega arith in absurd f)
      (cases_lt u (length s.queues))

  all_once : (k : ℕ) → in_table k s.table + count k (all_askers s.queues) ≤ 1
  all_once k = let o = h.one_place k in grind (arith, nat_tests)

  pub queue_once : (u k : ℕ) → count k (askers (queue_of s u)) ≤ 1
  queue_once u k = ⊎_elim
      (λ (i : 1 ≤ count k (askers (queue_of s u))). ⊎_elim
      (λ (l : u < length s.queues). let c = count-one_queue k s.queues u l in let o = all_once k in omega arith)
      (λ (l : length s.queues ≤ u). let e : count k (askers (queue_of s u)) ≡ 0 = ap (λ (q : List Request). count k (askers q)) (get_or_past s.queues u [] l) in omega arith) (cases_lt u (length s.queues)))
      (λ (i : count k (askers (queue_of s u)) < 1). omega arith) (swap (cases_lt (count k (askers (queue_of s u))) 1))
    where
      swap : {A B : Type 0} → A ⊎ B → B ⊎ A
      swap (inl a) = inr a
      swap (inr b) = inl b

  -- the running task asks nowhere
  pub caller-asks-not : (t k : ℕ) → s.table.running ≡ Some t → 1 ≤ count k (all_askers s.queues) → eqb t k ≡ false
  caller-asks-not t k e i = ⊎_elim
      (λ (q : eqb t k ≡ true). let r = run_places t s.table e in let o = all_once t in
      let w : 1 ≤ count t (all_askers s.queues) = subst (λ (j : ℕ). 1 ≤ count j (all_askers s.queues)) (sym (eqb-true t k q)) i in let f : ⊥ = omega arith in absurd f)
      (λ (q : eqb t k ≡ false). q) (cases_Bool (eqb t k))

  caller_in : (t : ℕ) → s.table.running ≡ Some t → t < length s.table.tasks
  caller_in t e = let r = run_places t s.table e in let o = h.one_place t in grind (arith, nat_tests)

  asker_in : (k : ℕ) → 1 ≤ count k (all_askers s.queues) → k < length s.table.tasks
  asker_in k i = let o = h.one_place k in grind (arith, nat_tests)

  -- The records after each step at a unit -------------------------------------------------------------------------------------
  module _ (t u : ℕ) (k : TransferKind) (bytes : List ℕ) (size : ℕ) (e : s.table.running ≡ Some t) where
    pub asked-load : load (task_of (asking t u k bytes size s).state t) ≡ (Some k, bytes)
    asked-load =
        let b = change t (with_transfer k bytes) (stop s.table) in
        let l : t < length (stop s.table).tasks = (let c = caller_in t e in let z = stop-length s.table in omega arith) in
        same-tasks load (turn b) b t (tasks-turn b) ∙ ap load (record_same t (with_transfer k bytes) (stop s.table) l)

    pub asked-others : (j : ℕ) → eqb t j ≡ false → load (task_of (asking t u k bytes size s).state j) ≡ load (task_of s j)
    asked-others j n = same_turn load (change t (with_transfer k bytes) (stop s.table)) s.table j (same-other load t j (with_transfer k bytes) (stop s.table) n ∙ same_stop load s.table j)

  module _ (u : ℕ) (r : Request) (rs : List Request) (low : u < length s.queues) (q : queue_of s u ≡ r ∷ rs) where
    pub first-asks : 1 ≤ count r.task (all_askers s.queues)
    first-asks = asker_of u r.task (let z : count r.task (askers (queue_of s u)) ≡ one r.task r.task + count r.task (askers rs) = ap (λ (x : List Request). count r.task (askers x)) q in let o = one_same r.task in omega arith)

    -- the first stands in the queue only once, and in no other
    pub first-only : (j : ℕ) → 1 ≤ count j (askers rs) → eqb r.task j ≡ false
    first-only j i = let z : count j (askers (queue_of s u)) ≡ one j r.task + count j (askers rs) = ap (λ (x : List Request). count j (askers x)) q in let o = queue_once u j in grind (arith, nat_tests)

    pub first-here : (v j : ℕ) → eqb u v ≡ false → 1 ≤ count j (askers (queue_of s v)) → eqb r.task j ≡ false
    first-here v j n i = ⊎_elim
        (λ (l : v < length s.queues).
        let a = count_queue j s.queues u [] low in
        let b = count-one_queue j (set s.queues u []) v (let z = length-set s.queues u [] in omega arith) in
        let c : count j (askers (get_or (set s.queues u []) v [])) ≡ count j (askers (queue_of s v)) = ap (λ (x : List Request). count j (askers x)) (queue_there s u v [] n) in
        let z : count j (askers (queue_of s u)) ≡ one j r.task + count j (askers rs) = ap (λ (x : List Request). count j (askers x)) q in
        let o = all_once j in grind (arith, nat_tests))
        (λ (l : length s.queues ≤ v). let e : count j (askers (queue_of s v)) ≡ 0 = ap (λ (x : List Request). count j (askers x)) (get_or_past s.queues v [] l) in let f : ⊥ = omega arith in absurd f)
        (cases_lt v (length s.queues))

    pub on-load : load (task_of (going_on u r rs (move_of u r s) s).state r.task) ≡ ((task_of s r.task).kind, (move_of u r s).bytes)
    on-load = ap load (record_same r.task (with_bytes (move_of u r s).bytes) s.table (asker_in r.task first-asks))

    pub on-others : (j : ℕ) → eqb r.task j ≡ false → load (task_of (going_on u r rs (move_of u r s) s).state j) ≡ load (task_of s j)
    on-others j n = same-other load r.task j (with_bytes (move_of u r s).bytes) s.table n

    module _ (o : Outcome) where
      pub end-load : load (task_of (ending u r rs (move_of u r s) o s).state r.task) ≡ ((task_of s r.task).kind, (move_of u r s).bytes)
      end-load = let b = change r.task (with_outcome (move_of u r s).bytes o) s.table in
          same-tasks load (turn (release r.task b)) b r.task (tasks-turn (release r.task b) ∙ tasks-release r.task b) ∙ ap load (record_same r.task (with_outcome (move_of u r s).bytes o) s.table (asker_in r.task first-asks))

      pub end-others : (j : ℕ) → eqb r.task j ≡ false → load (task_of (ending u r rs (move_of u r s) o s).state j) ≡ load (task_of s j)
      end-others j n = let b = change r.task (with_outcome (move_of u r s).bytes o) s.table in
          same-tasks load (turn (release r.task b)) b j (tasks-turn (release r.task b) ∙ tasks-release r.task b) ∙ same-other load r.task j (with_outcome (move_of u r s).bytes o) s.table n

-- Requests fit ----------------------------------------------------------------------------------------------------------------
abbrev fit_load : Option TransferKind × List ℕ → Request → Bool
fit_load l r = ltb r.moved r.size && (leb r.size longest && (is_some l.0 && eqb (length l.1) (cond (writes l.0) r.size r.moved)))

all-fit_like : (a b : Table) (q : List Request) → ((k : ℕ) → 1 ≤ count k (askers q) → load (record_in b k) ≡ load (record_in a k)) → all_fit a q ≡ true → all_fit b q ≡ true
all-fit_like a b [] e f = refl
all-fit_like a b (r ∷ rs) e f =
    let p = and_parts (fits (record_in a r.task) r) (all_fit a rs) f in
    let i = one_same r.task in
    and_from _ _ (ap (λ (l : Option TransferKind × List ℕ). fit_load l r) (e r.task (omega arith)) ∙ p.0) (all-fit_like a b rs (λ k j. e k (omega arith)) p.1)

all-fit-enqueue : (a : Table) (r : Request) (q : List Request) → fits (record_in a r.task) r ≡ true → all_fit a q ≡ true → all_fit a (enqueue r q) ≡ true
all-fit-enqueue a r [] f h = and_from _ _ f refl
all-fit-enqueue a r (x ∷ xs) f h = let p = and_parts (fits (record_in a x.task) x) (all_fit a xs) h in and_from _ _ p.0 (all-fit-enqueue a r xs f p.1)

-- what fitting says
pub record Fitting (x : Task) (r : Request) : Type 0 where
  pub below : r.moved < r.size
  pub small : r.size ≤ longest
  pub kind : is_some x.kind ≡ true
  pub long : length x.bytes ≡ cond (writes x.kind) r.size r.moved

pub fitting : (x : Task) (r : Request) → fits x r ≡ true → Fitting x r
fitting x r f =
    let p = and_parts (ltb r.moved r.size) _ f in
    let q = and_parts (leb r.size longest) _ p.1 in
    let w = and_parts (is_some x.kind) _ q.1 in
    let a = p.0 in let b = q.0 in
    record { below = grind (arith, nat_tests); small = grind (arith, nat_tests); kind = w.0; long = eqb-true (length x.bytes) _ w.1 }

fit-asked : (y : transfer.Transfer (List ℕ)) (k : TransferKind) (bytes : List ℕ) (t size : ℕ) → Asked y k bytes size → fit_load (Some k, bytes) (record { task = t; size = size; moved = 0 }) ≡ true
fit-asked y k bytes t size a =
    let x = a.some in let z = a.most in
    and_from (ltb 0 size) _ (grind (arith, nat_tests)) (and_from (leb size longest) _ (grind (arith, nat_tests)) (and_from true _ refl (eq-eqb (length bytes) _ (go (writes (Some k)) refl))))
  where
    go : (w : Bool) → writes (Some k) ≡ w → length bytes ≡ cond w size 0
    go true e = a.long e
    go false e = ap length (a.unread e)

fit_on : (s : State) (u : ℕ) (r : Request) → fits (task_of s r.task) r ≡ true → (move_of u r s).ends ≡ None
    → fit_load ((task_of s r.task).kind, (move_of u r s).bytes) (record { task = r.task; size = r.size; moved = (move_of u r s).moved }) ≡ true
fit_on s u r f e =
    let x = fitting (task_of s r.task) r f in
    let m = moved u r s in
    let more = m.one_more e in let below = x.below in let small = x.small in let ne = eqb-false (r.moved + 1) r.size (m.not-all e) in
    let lt : (move_of u r s).moved < r.size = omega arith in
    let l : length (move_of u r s).bytes ≡ length (task_of s r.task).bytes + length (had_from (writes (task_of s r.task).kind) (unit_of s u)) = ap length m.bytes ∙ length-append (task_of s r.task).bytes (had_from (writes (task_of s r.task).kind) (unit_of s u)) in
    and_from (ltb (move_of u r s).moved r.size) _ (grind (arith, nat_tests)) (and_from (leb r.size longest) _ (grind (arith, nat_tests)) (and_from (is_some (task_of s r.task).kind) _ x.kind
    (eq-eqb (length (move_of u r s).bytes) _ (go (writes (task_of s r.task).kind) refl x.long l more (m.came e)))))
  where
    go : (w : Bool) → writes (task_of s r.task).kind ≡ w → length (task_of s r.task).bytes ≡ cond w r.size r.moved
        → length (move_of u r s).bytes ≡ length (task_of s r.task).bytes + length (had_from w (unit_of s u)) → (move_of u r s).moved ≡ r.moved + 1
        → (w ≡ false → length (had_from w (unit_of s u)) ≡ 1) → length (move_of u r s).bytes ≡ cond w r.size (move_of u r s).moved
    go true e a b c came = omega arith
    go false e a b c came = let d = came refl in omega arith

module _ (s : State) (h : Sound s) where
  requests-apart : {x : Step} {d : Done} → Apart s x d → (v : ℕ) → all_fit d.state.table (queue_of d.state v) ≡ true
  requests-apart {x} {d} a v =
      let e : queue_of d.state v ≡ queue_of s v = ap (λ (qs : List (List Request)). get_or qs v []) a.queues in
      subst (λ (q : List Request). all_fit d.state.table q ≡ true) (sym e) (all-fit_like s.table d.state.table (queue_of s v) (λ k i. a.loads k (asker_of s h v k i)) (h.requests v))

  requests-at : {x : Step} {d : Done} → AtUnit s x d → (v : ℕ) → all_fit d.state.table (queue_of d.state v) ≡ true
  requests-at (asks_it t u y k bytes size e l a) v =
      let d = (asking t u k bytes size s).state in
      let low : u < length s.queues = (let w = h.queues in omega arith) in
      let r : Request = record { task = t; size = size; moved = 0 } in
      let others : (w j : ℕ) → 1 ≤ count j (askers (queue_of s w)) → load (task_of d j) ≡ load (task_of s j) = λ w j i. asked-others s h t u k bytes size e j (caller-asks-not s h t j e (asker_of s h w j i)) in
      ⊎_elim
      (λ (b : eqb u v ≡ true). subst (λ (w : ℕ). all_fit d.table (queue_of d w) ≡ true) (eqb-true u v b) (subst (λ (q : List Request). all_fit d.table q ≡ true) (sym (queue_here s u (enqueue r (queue_of s u)) low))
      (all-fit-enqueue d.table r (queue_of s u) (ap (λ (x : Option TransferKind × List ℕ). fit_load x r) (asked-load s h t u k bytes size e) ∙ fit-asked y k bytes t size a) (all-fit_like s.table d.table (queue_of s u) (others u) (h.requests u)))))
      (λ (b : eqb u v ≡ false). subst (λ (q : List Request). all_fit d.table q ≡ true) (sym (queue_there s u v (enqueue r (queue_of s u)) b)) (all-fit_like s.table d.table (queue_of s v) (others v) (h.requests v)))
      (cases_Bool (eqb u v))
  requests-at (moves-on u r rs l q a) v =
      let d = (going_on u r rs (move_of u r s) s).state in
      let low : u < length s.queues = (let w = h.queues in omega arith) in
      let r' : Request = record { task = r.task; size = r.size; moved = (move_of u r s).moved } in
      let old = and_parts (fits (task_of s r.task) r) (all_fit s.table rs) (subst (λ (x : List Request). all_fit s.table x ≡ true) q (h.requests u)) in
      ⊎_elim
      (λ (b : eqb u v ≡ true). subst (λ (w : ℕ). all_fit d.table (queue_of d w) ≡ true) (eqb-true u v b) (subst (λ (x : List Request). all_fit d.table x ≡ true) (sym (queue_here s u (r' ∷ rs) low))
      (and_from _ _ (ap (λ (x : Option TransferKind × List ℕ). fit_load x r') (on-load s h u r rs low q) ∙ fit_on s u r old.0 a)
      (all-fit_like s.table d.table rs (λ k i. on-others s h u r rs low q k (first-only s h u r rs low q k i)) old.1))))
      (λ (b : eqb u v ≡ false). subst (λ (x : List Request). all_fit d.table x ≡ true) (sym (queue_there s u v (r' ∷ rs) b))
      (all-fit_like s.table d.table (queue_of s v) (λ k i. on-others s h u r rs low q k (first-here s h u r rs low q v k b i)) (h.requests v)))
      (cases_Bool (eqb u v))
  requests-at (moves-last u r rs o l q a) v =
      let d = (ending u r rs (move_of u r s) o s).state in
      let low : u < length s.queues = (let w = h.queues in omega arith) in
      let old = and_parts (fits (task_of s r.task) r) (all_fit s.table rs) (subst (λ (x : List Request). all_fit s.table x ≡ true) q (h.requests u)) in
      ⊎_elim
      (λ (b : eqb u v ≡ true). subst (λ (w : ℕ). all_fit d.table (queue_of d w) ≡ true) (eqb-true u v b) (subst (λ (x : List Request). all_fit d.table x ≡ true) (sym (queue_here s u rs low))
      (all-fit_like s.table d.table rs (λ k i. end-others s h u r rs low q o k (first-only s h u r rs low q k i)) old.1)))
      (λ (b : eqb u v ≡ false). subst (λ (x : List Request). all_fit d.table x ≡ true) (sym (queue_there s u v rs b))
      (all-fit_like s.table d.table (queue_of s v) (λ k i. end-others s h u r rs low q o k (first-here s h u r rs low q v k b i)) (h.requests v)))
      (cases_Bool (eqb u v))

  pub requests-step : {x : Step} {d : Done} → Shape s x d → (v : ℕ) → all_fit d.state.table (queue_of d.state v) ≡ true
  requests-step w = ⊎_elim (λ a. requests-apart a) (λ a. requests-at a) (sorted-out s h.one_place w)

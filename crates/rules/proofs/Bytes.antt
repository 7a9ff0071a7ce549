-- The bytes of a unit: what writes added to taken, and reads to given, through every run.
use Rattle.std.proofs.Common.{◌≡◌, ℕ, zero, suc, ◌+◌, ◌<◌, ◌≤◌, Bool, true, false, cond, not, ◌&&◌, eqb, List, [], ◌∷◌, ◌++◌, length, get_or, take, drop, set, Some, None, All, count_by, Option, sym, refl, ap, ◌∙◌, subst, ⊎_elim, append_assoc, append-nil, arith}
use Rattle.std.specs.List.{flat_map}
use Rattle.std.proofs.lemmas.List.Elements.{All-head, All-tail}
use Rattle.std.proofs.lemmas.List.{drop_all, drop_at, drop_more, get_or-replicate, get_or-set_other, get_or-set_same, length-append, take-take}
use Rattle.std.proofs.lemmas.List.Sums.{sum_by-cons}
use Rattle.std.proofs.lemmas.Bool.{and_parts, cases_Bool, eqb-true, eqb-false, eq-eqb, false≢true, ne_eqb}
use Rattle.std.proofs.lemmas.Bool.Decides.{nat_tests}
use Rattle.calls.specs.declared.call.Call.TheVariants.{Transfer, Service}
use Rattle.calls.specs.declared.call.Transfer as transfer
use Rattle.calls.specs.declared.call.TransferKind.{TransferKind}
use Rattle.calls.specs.declared.outcome.Outcome.{Outcome}
use Rattle.chain.specs.Lists.{count, has, one}
use Rattle.chain.proofs.Members.{some-count}
use Rattle.unit.specs.Medium.{Medium, fresh}
use Rattle.rules.specs.State.{Request, State, begin, queue_of, task_of, unit_of}
use Rattle.rules.specs.Acts.{Done}
use Rattle.rules.specs.Records.{askers, bit}
use Rattle.rules.specs.Transfers.{Move, asking, ending, enqueue, going_on, move_of, writes}
use Rattle.rules.specs.Rules.{Step, apply}
use Rattle.rules.specs.Runs.{Entry, after, entry, history}
use Rattle.rules.specs.Sound.{Sound, all_fit, fits}
use Rattle.rules.specs.Laws.{Lawful, OfEveryRun, UnitLaws, asked, during, is_first, is_granted, owes, read, read_by, serves, state_after, takes_from, text_of, waits_at, written_by, written}
use Rattle.rules.proofs.Counts.{one_same}
use Rattle.rules.proofs.Moves.{Apart, AtUnit, asks_it, had_from, load, moved, moves-last, moves-on, put_in, sorted-out}
use Rattle.rules.proofs.Requests.{Fitting, asked-load, asked-others, asker_of, caller-asks-not, end-load, end-others, first-here, first-only, fitting, on-load, on-others, queue_here, queue_once, queue_there}
use Rattle.rules.proofs.Owed.{count-some, first-owes, has_enqueued}
use Rattle.rules.proofs.Shapes.{Asked, Shape, shape}
use Rattle.rules.proofs.Sounds.{good_begin, sound-step}

abbrev Entered : State → Step → Done → Entry
Entered s x d = record { before = s; step = x; did = d }

abbrev Load : Type 0
Load = Option TransferKind × List ℕ

-- Waits ------------------------------------------------------------------------------------------------------------------------
during-more : (t u : ℕ) (s : State) (x : Step) (d : Done) (H : List Entry) → waits_at t u s ≡ true → during t u (Entered s x d ∷ H) ≡ Entered s x d ∷ during t u H
during-more t u s x d H w = ap (λ (b : Bool). cond b (Entered s x d ∷ during t u H) []) w

during-none : (t u : ℕ) (s : State) (xs : List Step) → waits_at t u s ≡ false → during t u (history s xs) ≡ []
during-none t u s [] w = refl
during-none t u s (x ∷ xs) w = ap (λ (b : Bool). cond b (entry s x ∷ during t u (history (apply x s).state xs)) []) w

-- a list that has grown at its end
record Grown (xs ys : List ℕ) : Type 0 where
  more : List ℕ
  is : ys ≡ xs ++ more

grown-same : (xs ys : List ℕ) → ys ≡ xs → Grown xs ys
grown-same xs ys e = record { more = []; is = e ∙ sym (append-nil xs) }

grown-then : (xs ys zs : List ℕ) → Grown xs ys → Grown ys zs → Grown xs zs
grown-then xs ys zs a b = record { more = a.more ++ b.more; is = b.is ∙ ap (λ (l : List ℕ). l ++ b.more) a.is ∙ append_assoc xs a.more b.more }

-- the bytes of one who waits at a unit only grow
module _ (s : State) (h : Sound s) (t u : ℕ) (w : waits_at t u s ≡ true) where
  asks-here : 1 ≤ count t (askers (queue_of s u))
  asks-here = some-count t (askers (queue_of s u)) w

  grows-load : (d : State) → load (task_of d t) ≡ load (task_of s t) → Grown (task_of s t).bytes (task_of d t).bytes
  grows-load d e = grown-same (task_of s t).bytes (task_of d t).bytes (ap (λ (l : Load). l.1) e)

  grows-moved : (d : State) (v : ℕ) (r : Request) → r.task ≡ t → load (task_of d r.task) ≡ ((task_of s r.task).kind, (move_of v r s).bytes) → Grown (task_of s t).bytes (task_of d t).bytes
  grows-moved d v r q e = subst (λ (k : ℕ). Grown (task_of s k).bytes (task_of d k).bytes) q
      (record { more = had_from (writes (task_of s r.task).kind) (unit_of s v); is = ap (λ (l : Load). l.1) e ∙ (moved v r s).bytes })

  grows_at : {x : Step} {d : Done} → AtUnit s x d → Grown (task_of s t).bytes (task_of d.state t).bytes
  grows_at (asks_it c v y k bytes size e l a) = grows-load (asking c v k bytes size s).state (asked-others s h c v k bytes size e t (caller-asks-not s h c t e (asker_of s h u t asks-here)))
  grows_at (moves-on v r rs l q a) = let low : v < length s.queues = (let z = h.queues in omega arith) in let d = (going_on v r rs (move_of v r s) s).state in
      ⊎_elim (λ (b : eqb r.task t ≡ true). grows-moved d v r (eqb-true r.task t b) (on-load s h v r rs low q)) (λ (b : eqb r.task t ≡ false). grows-load d (on-others s h v r rs low q t b)) (cases_Bool (eqb r.task t))
  grows_at (moves-last v r rs o l q a) = let low : v < length s.queues = (let z = h.queues in omega arith) in let d = (ending v r rs (move_of v r s) o s).state in
      ⊎_elim (λ (b : eqb r.task t ≡ true). grows-moved d v r (eqb-true r.task t b) (end-load s h v r rs low q o)) (λ (b : eqb r.task t ≡ false). grows-load d (end-others s h v r rs low q o t b)) (cases_Bool (eqb r.task t))

  grows : {x : Step} {d : Done} → Shape s x d → Grown (task_of s t).bytes (task_of d.state t).bytes
  grows {x} {d} z = ⊎_elim (λ (p : Apart s x d). grows-load d.state (p.loads t (asker_of s h u t asks-here))) (λ (p : AtUnit s x d). grows_at p) (sorted-out s h.one_place z)

grown_run : (t u : ℕ) (s : State) (xs : List Step) → All Lawful xs → Sound s → waits_at t u s ≡ true → Grown (task_of s t).bytes (task_of (state_after s (during t u (history s xs))) t).bytes
grown_run t u s [] ok g w = grown-same _ _ refl
grown_run t u s (x ∷ xs) ok g w =
    let s' = (apply x s).state in
    let one = grows s g t u w (shape s x) in
    subst (λ (l : List Entry). Grown (task_of s t).bytes (task_of (state_after s l) t).bytes) (sym (during-more t u s x (apply x s) (history s' xs) w))
    (⊎_elim
    (λ (b : waits_at t u s' ≡ true). grown-then _ _ _ one (grown_run t u s' xs (All-tail Lawful x xs ok) (sound-step s x (All-head Lawful x xs ok) g) b))
    (λ (b : waits_at t u s' ≡ false). subst (λ (l : List Entry). Grown (task_of s t).bytes (task_of (state_after s' l) t).bytes) (sym (during-none t u s' xs b)) one)
    (cases_Bool (waits_at t u s')))

-- What a request owes bounds the services to it --------------------------------------------------------------------------------
abbrev own : ℕ → List Request → ℕ
own t [] = 0
own t (r ∷ rs) = cond (eqb r.task t) (owes r) (own t rs)

own-enqueue : (t : ℕ) (r : Request) (q : List Request) → has t (askers q) ≡ true → own t (enqueue r q) ≡ own t q
own-enqueue t r [] i = absurd (false≢true i)
own-enqueue t r (x ∷ xs) i = let ih = own-enqueue t r xs in grind (arith, nat_tests)

own-last : (t : ℕ) (r : Request) (q : List Request) → has t (askers q) ≡ false → r.task ≡ t → own t (enqueue r q) ≡ owes r
own-last t r [] i e = let b = eq-eqb r.task t e in grind arith
own-last t r (x ∷ xs) i e = let ih = own-last t r xs in grind (arith, nat_tests)

-- what t owes after a step, if it still waits
abbrev own_after : ℕ → ℕ → State → ℕ
own_after t u s = cond (waits_at t u s) (own t (queue_of s u)) 0

module _ (s : State) (h : Sound s) (t u : ℕ) (w : waits_at t u s ≡ true) where
  own_same : (x : Step) (d : Done) → (serves u x && is_granted d.answer) ≡ false → queue_of d.state u ≡ queue_of s u → bit (takes_from t u (Entered s x d)) 1 + own_after t u d.state ≤ own t (queue_of s u)
  own_same x d n q =
      let a : bit (takes_from t u (Entered s x d)) 1 ≡ 0 = ap (λ (b : Bool). bit (b && (is_first t (queue_of s u) && not (eqb (unit_of s u).room 0))) 1) n in
      let b : own_after t u d.state ≡ own t (queue_of s u) = ap (λ (l : List Request). cond (has t (askers l)) (own t l) 0) q ∙ ap (λ (c : Bool). cond c (own t (queue_of s u)) 0) w in omega arith

  own_at : {x : Step} {d : Done} → AtUnit s x d → bit (takes_from t u (Entered s x d)) 1 + own_after t u d.state ≤ own t (queue_of s u)
  own_at (asks_it c v y k bytes size e l a) =
      let low : v < length s.queues = (let z = h.queues in omega arith) in
      let r : Request = record { task = c; size = size; moved = 0 } in
      ⊎_elim
      (λ (b : eqb v u ≡ true). let vu = eqb-true v u b in
      let q : queue_of (asking c v k bytes size s).state u ≡ enqueue r (queue_of s u) = subst (λ (z : ℕ). get_or (set s.queues v (enqueue r (queue_of s v))) z [] ≡ enqueue r (queue_of s z)) vu (queue_here s v (enqueue r (queue_of s v)) low) in
      let f : own t (queue_of (asking c v k bytes size s).state u) ≡ own t (queue_of s u) = ap (own t) q ∙ own-enqueue t r (queue_of s u) w in grind (arith, nat_tests))
      (λ (b : eqb v u ≡ false). own_same (Transfer v y) (asking c v k bytes size s) refl (queue_there s v u (enqueue r (queue_of s v)) b))
      (cases_Bool (eqb v u))
  own_at (moves-on v r rs l q a) =
      let low : v < length s.queues = (let z = h.queues in omega arith) in
      let r' : Request = record { task = r.task; size = r.size; moved = (move_of v r s).moved } in
      ⊎_elim
      (λ (b : eqb v u ≡ true). let vu = eqb-true v u b in
      let q0 : queue_of s u ≡ r ∷ rs = subst (λ (z : ℕ). queue_of s z ≡ r ∷ rs) vu q in
      let q1 : queue_of (going_on v r rs (move_of v r s) s).state u ≡ r' ∷ rs = subst (λ (z : ℕ). get_or (set s.queues v (r' ∷ rs)) z [] ≡ r' ∷ rs) vu (queue_here s v (r' ∷ rs) low) in
      let d0 : own t (queue_of s u) ≡ own t (r ∷ rs) = ap (own t) q0 in let d1 : own t (queue_of (going_on v r rs (move_of v r s) s).state u) ≡ own t (r' ∷ rs) = ap (own t) q1 in
      let f = (first-owes s.table r rs (subst (λ (x : List Request). all_fit s.table x ≡ true) q0 (h.requests u))).0 in
      let m = (moved v r s).one_more a in let z = eqb-false (r.moved + 1) r.size ((moved v r s).not-all a) in
      let y : is_first t (queue_of s u) ≡ eqb r.task t = ap (is_first t) q0 in grind (arith, nat_tests))
      (λ (b : eqb v u ≡ false). own_same (Service v) (going_on v r rs (move_of v r s) s) (ap (λ (c : Bool). c && true) b) (queue_there s v u (r' ∷ rs) b))
      (cases_Bool (eqb v u))
  own_at (moves-last v r rs o l q a) =
      let low : v < length s.queues = (let z = h.queues in omega arith) in
      ⊎_elim
      (λ (b : eqb v u ≡ true). let vu = eqb-true v u b in
      let q0 : queue_of s u ≡ r ∷ rs = subst (λ (z : ℕ). queue_of s z ≡ r ∷ rs) vu q in
      let q1 : queue_of (ending v r rs (move_of v r s) o s).state u ≡ rs = subst (λ (z : ℕ). get_or (set s.queues v rs) z [] ≡ rs) vu (queue_here s v rs low) in
      let d0 : own t (queue_of s u) ≡ own t (r ∷ rs) = ap (own t) q0 in
      let d1 : own_after t u (ending v r rs (move_of v r s) o s).state ≡ cond (has t (askers rs)) (own t rs) 0 = ap (λ (x : List Request). cond (has t (askers x)) (own t x) 0) q1 in
      let f = (first-owes s.table r rs (subst (λ (x : List Request). all_fit s.table x ≡ true) q0 (h.requests u))).0 in
      let y : is_first t (queue_of s u) ≡ eqb r.task t = ap (is_first t) q0 in
      let n : has t (askers rs) ≡ true → 1 ≤ count t (askers rs) = some-count t (askers rs) in
      let g : count t (askers (queue_of s u)) ≡ one t r.task + count t (askers rs) = ap (λ (x : List Request). count t (askers x)) q0 in
      let once = queue_once s h u t in grind (arith, nat_tests))
      (λ (b : eqb v u ≡ false). own_same (Service v) (ending v r rs (move_of v r s) o s) (ap (λ (c : Bool). c && true) b) (queue_there s v u rs b))
      (cases_Bool (eqb v u))

  own-step : {x : Step} {d : Done} → Shape s x d → bit (takes_from t u (Entered s x d)) 1 + own_after t u d.state ≤ own t (queue_of s u)
  own-step {x} {d} z = ⊎_elim (λ (p : Apart s x d). own_same x d (p.unserved u) (ap (λ (qs : List (List Request)). get_or qs u []) p.queues)) (λ (p : AtUnit s x d). own_at p) (sorted-out s h.one_place z)

own_run : (t u : ℕ) (s : State) (xs : List Step) → All Lawful xs → Sound s → waits_at t u s ≡ true → count_by (takes_from t u) (during t u (history s xs)) ≤ own t (queue_of s u)
own_run t u s [] ok g w = omega arith
own_run t u s (x ∷ xs) ok g w =
    let s' = (apply x s).state in
    let one = own-step s g t u w (shape s x) in
    let c = sum_by-cons (λ e. cond (takes_from t u e) 1 0) (entry s x) (during t u (history s' xs)) in
    subst (λ (l : List Entry). count_by (takes_from t u) l ≤ own t (queue_of s u)) (sym (during-more t u s x (apply x s) (history s' xs) w))
    (⊎_elim
    (λ (b : waits_at t u s' ≡ true). let r = own_run t u s' xs (All-tail Lawful x xs ok) (sound-step s x (All-head Lawful x xs ok) g) b in let z : own_after t u s' ≡ own t (queue_of s' u) = ap (λ (b : Bool). cond b (own t (queue_of s' u)) 0) b in omega arith)
    (λ (b : waits_at t u s' ≡ false). let z : count_by (takes_from t u) (during t u (history s' xs)) ≡ 0 = ap (count_by (takes_from t u)) (during-none t u s' xs b) in omega arith)
    (cases_Bool (waits_at t u s')))

-- What the requests that wait now will yet move --------------------------------------------------------------------------------
abbrev writes_yet : ℕ → Load → ℕ → List ℕ
writes_yet m l n = cond (writes l.0) (take n (drop m l.1)) []

abbrev reads_yet : ℕ → Option TransferKind → List ℕ → List ℕ
reads_yet m k b = cond (writes k) [] (drop m b)

abbrev will_write : ℕ → State → List Entry → Request → List ℕ
will_write u s H r = writes_yet r.moved (load (task_of s r.task)) (count_by (takes_from r.task u) (during r.task u H))

abbrev will_read : ℕ → State → List Entry → Request → List ℕ
will_read u s H r = reads_yet r.moved (task_of s r.task).kind (task_of (state_after s (during r.task u H)) r.task).bytes

-- what a run by H from s to now does at the unit u
record Account (u : ℕ) (s : State) (H : List Entry) (now : State) : Type 0 where
  taken : (unit_of now u).taken ≡ (unit_of s u).taken ++ (flat_map (will_write u s H) (queue_of s u) ++ written u H)
  given : (unit_of now u).given ≡ (unit_of s u).given ++ (flat_map (will_read u s H) (queue_of s u) ++ read u H)

joined_like : (f g : Request → List ℕ) (q : List Request) → ((r : Request) → 1 ≤ count r.task (askers q) → f r ≡ g r) → flat_map f q ≡ flat_map g q
joined_like f g [] e = refl
joined_like f g (r ∷ rs) e = let o = one_same r.task in let a = e r (omega arith) in let b = joined_like f g rs (λ x i. e x (omega arith)) in cc

joined-enqueue : (f : Request → List ℕ) (r : Request) (q : List Request) → flat_map f (enqueue r q) ≡ flat_map f q ++ f r
joined-enqueue f r [] = append-nil (f r)
joined-enqueue f r (x ∷ xs) = ap (λ (l : List ℕ). f x ++ l) (joined-enqueue f r xs) ∙ sym (append_assoc (f x) (flat_map f xs) (f r))

-- at the end of a run, nothing more
none_written : (u : ℕ) (s : State) (q : List Request) → flat_map (will_write u s []) q ≡ []
none_written u s [] = refl
none_written u s (r ∷ rs) = let ih = none_written u s rs in go (writes (task_of s r.task).kind) ih
  where
    go : (b : Bool) → flat_map (will_write u s []) rs ≡ [] → cond b (take 0 (drop r.moved (task_of s r.task).bytes)) [] ++ flat_map (will_write u s []) rs ≡ []
    go true e = e
    go false e = e

none_read : (u : ℕ) (s : State) (q : List Request) → all_fit s.table q ≡ true → flat_map (will_read u s []) q ≡ []
none_read u s [] f = refl
none_read u s (r ∷ rs) f =
    let p = and_parts (fits (task_of s r.task) r) (all_fit s.table rs) f in
    let ih = none_read u s rs p.1 in
    go (writes (task_of s r.task).kind) (fitting (task_of s r.task) r p.0).long ih
  where
    go : (b : Bool) → length (task_of s r.task).bytes ≡ cond b r.size r.moved → flat_map (will_read u s []) rs ≡ [] → cond b [] (drop r.moved (task_of s r.task).bytes) ++ flat_map (will_read u s []) rs ≡ []
    go true l e = e
    go false l e = ap (λ (x : List ℕ). x ++ flat_map (will_read u s []) rs) (drop_all r.moved (task_of s r.task).bytes (omega arith)) ∙ e

-- One step at the unit u: H goes on from its state
module _ (u : ℕ) (s : State) (h : Sound s) (low : u < 4) (x : Step) (d : Done) (H : List Entry) (now : State) where
  -- a request that the step does not serve
  write-on : (r : Request) → waits_at r.task u s ≡ true → takes_from r.task u (Entered s x d) ≡ false → load (task_of d.state r.task) ≡ load (task_of s r.task)
      → will_write u s (Entered s x d ∷ H) r ≡ will_write u d.state H r
  write-on r w n e =
      let t = r.task in
      let c : count_by (takes_from t u) (during t u (Entered s x d ∷ H)) ≡ count_by (takes_from t u) (during t u H) =
      ap (count_by (takes_from t u)) (during-more t u s x d H w) ∙ sum_by-cons (λ z. cond (takes_from t u z) 1 0) (Entered s x d) (during t u H) ∙ ap (λ (b : Bool). cond b 1 0 + count_by (takes_from t u) (during t u H)) n ∙ omega arith in
      ap (writes_yet r.moved (load (task_of s t))) c ∙ ap (λ (l : Load). writes_yet r.moved l (count_by (takes_from t u) (during t u H))) (sym e)

  read-on : (r : Request) → waits_at r.task u s ≡ true → load (task_of d.state r.task) ≡ load (task_of s r.task) → will_read u s (Entered s x d ∷ H) r ≡ will_read u d.state H r
  read-on r w e =
      let t = r.task in
      ap (λ (l : List Entry). reads_yet r.moved (task_of s t).kind (task_of (state_after s l) t).bytes) (during-more t u s x d H w)
      ∙ ap (λ (l : Load). reads_yet r.moved l.0 (task_of (state_after d.state (during t u H)) t).bytes) (sym e)

  -- the requests of a part of the queue that the step does not serve
  module _ (q : List Request) (inside : (k : ℕ) → 1 ≤ count k (askers q) → 1 ≤ count k (askers (queue_of s u)))
      (free : (k : ℕ) → 1 ≤ count k (askers q) → takes_from k u (Entered s x d) ≡ false) (same : (k : ℕ) → 1 ≤ count k (askers q) → load (task_of d.state k) ≡ load (task_of s k)) where
    writes-on : flat_map (will_write u s (Entered s x d ∷ H)) q ≡ flat_map (will_write u d.state H) q
    writes-on = joined_like _ _ q (λ r i. write-on r (count-some r.task (askers (queue_of s u)) (inside r.task i)) (free r.task i) (same r.task i))

    reads_on : flat_map (will_read u s (Entered s x d ∷ H)) q ≡ flat_map (will_read u d.state H) q
    reads_on = joined_like _ _ q (λ r i. read-on r (count-some r.task (askers (queue_of s u)) (inside r.task i)) (same r.task i))

  none-asked : (o : Option ℕ) → asked u (Entered s x d) ≡ None → (written_by u o (asked u (Entered s x d)) H ≡ []) × (read_by u o (asked u (Entered s x d)) d.state H ≡ [])
  none-asked None e = (refl, refl)
  none-asked (Some t) e = (ap (λ (y : Option (transfer.Transfer (List ℕ))). written_by u (Some t) y H) e, ap (λ (y : Option (transfer.Transfer (List ℕ))). read_by u (Some t) y d.state H) e)

  -- a step that concerns another unit or none
  passes : unit_of d.state u ≡ unit_of s u → queue_of d.state u ≡ queue_of s u → (serves u x && is_granted d.answer) ≡ false → asked u (Entered s x d) ≡ None
      → ((k : ℕ) → 1 ≤ count k (askers (queue_of s u)) → load (task_of d.state k) ≡ load (task_of s k)) → Account u d.state H now → Account u s (Entered s x d ∷ H) now
  passes eu eq n na same a =
      let free : (k : ℕ) → 1 ≤ count k (askers (queue_of s u)) → takes_from k u (Entered s x d) ≡ false = λ k _. ap (λ (b : Bool). b && (is_first k (queue_of s u) && not (eqb (unit_of s u).room 0))) n in
      let w = writes-on (queue_of s u) (λ k i. i) free same in let r = reads_on (queue_of s u) (λ k i. i) free same in
      let o = none-asked s.table.running na in let o0 = o.0 in let o1 = o.1 in
      let w' : flat_map (will_write u d.state H) (queue_of d.state u) ≡ flat_map (will_write u s (Entered s x d ∷ H)) (queue_of s u) = ap (flat_map (will_write u d.state H)) eq ∙ sym w in
      let r' : flat_map (will_read u d.state H) (queue_of d.state u) ≡ flat_map (will_read u s (Entered s x d ∷ H)) (queue_of s u) = ap (flat_map (will_read u d.state H)) eq ∙ sym r in
      record {
        taken = a.taken ∙ ap (λ (m : Medium). m.taken ++ (flat_map (will_write u d.state H) (queue_of d.state u) ++ written u H)) eu ∙ ap (λ (l : List ℕ). (unit_of s u).taken ++ (l ++ written u H)) w'
            ∙ ap (λ (l : List ℕ). (unit_of s u).taken ++ (flat_map (will_write u s (Entered s x d ∷ H)) (queue_of s u) ++ (l ++ written u H))) (sym o0);
        given = a.given ∙ ap (λ (m : Medium). m.given ++ (flat_map (will_read u d.state H) (queue_of d.state u) ++ read u H)) eu ∙ ap (λ (l : List ℕ). (unit_of s u).given ++ (l ++ read u H)) r'
            ∙ ap (λ (l : List ℕ). (unit_of s u).given ++ (flat_map (will_read u s (Entered s x d ∷ H)) (queue_of s u) ++ (l ++ read u H))) (sym o1);
      }

  -- a service to the first request r, which put in p or had q
  serves-first : (r : Request) (rs : List Request) (p q : List ℕ) → queue_of s u ≡ r ∷ rs → asked u (Entered s x d) ≡ None
      → (unit_of d.state u).taken ≡ (unit_of s u).taken ++ p → (unit_of d.state u).given ≡ (unit_of s u).given ++ q
      → flat_map (will_write u s (Entered s x d ∷ H)) (r ∷ rs) ≡ p ++ flat_map (will_write u d.state H) (queue_of d.state u)
      → flat_map (will_read u s (Entered s x d ∷ H)) (r ∷ rs) ≡ q ++ flat_map (will_read u d.state H) (queue_of d.state u)
      → Account u d.state H now → Account u s (Entered s x d ∷ H) now
  serves-first r rs p q e na et eg ew er a =
      let o = none-asked s.table.running na in let o0 = o.0 in let o1 = o.1 in
      let w : flat_map (will_write u s (Entered s x d ∷ H)) (queue_of s u) ≡ p ++ flat_map (will_write u d.state H) (queue_of d.state u) = ap (flat_map (will_write u s (Entered s x d ∷ H))) e ∙ ew in
      let v : flat_map (will_read u s (Entered s x d ∷ H)) (queue_of s u) ≡ q ++ flat_map (will_read u d.state H) (queue_of d.state u) = ap (flat_map (will_read u s (Entered s x d ∷ H))) e ∙ er in
      record {
        taken = a.taken ∙ ap (λ (l : List ℕ). l ++ (flat_map (will_write u d.state H) (queue_of d.state u) ++ written u H)) et
            ∙ regroup (unit_of s u).taken p (flat_map (will_write u d.state H) (queue_of d.state u)) (written u H)
            ∙ ap (λ (l : List ℕ). (unit_of s u).taken ++ (l ++ written u H)) (sym w) ∙ ap (λ (l : List ℕ). (unit_of s u).taken ++ (flat_map (will_write u s (Entered s x d ∷ H)) (queue_of s u) ++ (l ++ written u H))) (sym o0);
        given = a.given ∙ ap (λ (l : List ℕ). l ++ (flat_map (will_read u d.state H) (queue_of d.state u) ++ read u H)) eg
            ∙ regroup (unit_of s u).given q (flat_map (will_read u d.state H) (queue_of d.state u)) (read u H)
            ∙ ap (λ (l : List ℕ). (unit_of s u).given ++ (l ++ read u H)) (sym v) ∙ ap (λ (l : List ℕ). (unit_of s u).given ++ (flat_map (will_read u s (Entered s x d ∷ H)) (queue_of s u) ++ (l ++ read u H))) (sym o1);
      }
    where
      regroup : (a b c e : List ℕ) → (a ++ b) ++ (c ++ e) ≡ a ++ ((b ++ c) ++ e)
      regroup a b c e = append_assoc a b (c ++ e) ∙ ap (λ (l : List ℕ). a ++ l) (sym (append_assoc b c e))

-- An asking --------------------------------------------------------------------------------------------------------------------
module _ (u : ℕ) (s : State) (h : Sound s) (low : u < 4) (t : ℕ) (y : transfer.Transfer (List ℕ)) (k : TransferKind) (bytes : List ℕ) (size : ℕ) (e : s.table.running ≡ Some t) (a : Asked y k bytes size) (H : List Entry) (now : State) where
  abbrev asking-done : Done
  asking-done = asking t u k bytes size s

  abbrev asking_request : Request
  asking_request = record { task = t; size = size; moved = 0 }

  asks-no : has t (askers (queue_of s u)) ≡ false
  asks-no = ⊎_elim (λ (i : has t (askers (queue_of s u)) ≡ true). let n = caller-asks-not s h t t e (asker_of s h u t (some-count t (askers (queue_of s u)) i)) in absurd (false≢true (sym n ∙ eq-eqb t t refl)))
      (λ (i : has t (askers (queue_of s u)) ≡ false). i) (cases_Bool (has t (askers (queue_of s u))))

  asked_queue : queue_of asking-done.state u ≡ enqueue asking_request (queue_of s u)
  asked_queue = queue_here s u (enqueue asking_request (queue_of s u)) (let z = h.queues in omega arith)

  asked_it : asked u (Entered s (Transfer u y) asking-done) ≡ Some y
  asked_it = ap (λ (b : Bool). cond b (Some y) None) (eq-eqb u u refl)

  new_write : count_by (takes_from t u) (during t u H) ≤ own t (queue_of asking-done.state u) → will_write u asking-done.state H asking_request ≡ written_by u s.table.running (asked u (Entered s (Transfer u y) asking-done)) H
  new_write b =
      let n = count_by (takes_from t u) (during t u H) in
      let o : own t (queue_of asking-done.state u) ≡ owes asking_request = ap (own t) asked_queue ∙ own-last t asking_request (queue_of s u) asks-no refl in
      ap (λ (l : Load). writes_yet 0 l n) (asked-load s h t u k bytes size e) ∙ go (writes (Some k)) refl a.text (omega arith) ∙ ap (λ (j : TransferKind). cond (writes (Some j)) (take n (text_of y)) []) a.kind
      ∙ sym (ap (λ (o : Option ℕ). written_by u o (asked u (Entered s (Transfer u y) asking-done)) H) e ∙ ap (λ (z : Option (transfer.Transfer (List ℕ))). written_by u (Some t) z H) asked_it)
    where
      go : (w : Bool) → writes (Some k) ≡ w → (w ≡ true → bytes ≡ take size (text_of y)) → count_by (takes_from t u) (during t u H) ≤ size
          → cond w (take (count_by (takes_from t u) (during t u H)) (drop 0 bytes)) [] ≡ cond w (take (count_by (takes_from t u) (during t u H)) (text_of y)) []
      go true q x l = ap (take (count_by (takes_from t u) (during t u H))) (x refl) ∙ take-take (count_by (takes_from t u) (during t u H)) size (text_of y) l
      go false q x l = refl

  new_read : will_read u asking-done.state H asking_request ≡ read_by u s.table.running (asked u (Entered s (Transfer u y) asking-done)) asking-done.state H
  new_read =
      let b = (task_of (state_after asking-done.state (during t u H)) t).bytes in
      ap (λ (l : Load). reads_yet 0 l.0 b) (asked-load s h t u k bytes size e) ∙ ap (λ (j : TransferKind). cond (writes (Some j)) [] b) a.kind
      ∙ sym (ap (λ (o : Option ℕ). read_by u o (asked u (Entered s (Transfer u y) asking-done)) asking-done.state H) e ∙ ap (λ (z : Option (transfer.Transfer (List ℕ))). read_by u (Some t) z asking-done.state H) asked_it)

  asks_account : count_by (takes_from t u) (during t u H) ≤ own t (queue_of asking-done.state u) → Account u asking-done.state H now → Account u s (Entered s (Transfer u y) asking-done ∷ H) now
  asks_account bound acc =
      let x = Transfer u y in let d = asking-done in
      let same : (j : ℕ) → 1 ≤ count j (askers (queue_of s u)) → load (task_of d.state j) ≡ load (task_of s j) = λ j i. asked-others s h t u k bytes size e j (caller-asks-not s h t j e (asker_of s h u j i)) in
      let w = writes-on u s h low x d H now (queue_of s u) (λ _ i. i) (λ _ _. refl) same in
      let r = reads_on u s h low x d H now (queue_of s u) (λ _ i. i) (λ _ _. refl) same in
      record {
        taken = acc.taken ∙ ap (λ (q : List Request). (unit_of s u).taken ++ (flat_map (will_write u d.state H) q ++ written u H)) asked_queue
            ∙ ap (λ (l : List ℕ). (unit_of s u).taken ++ (l ++ written u H)) (joined-enqueue (will_write u d.state H) asking_request (queue_of s u))
            ∙ ap (λ (l : List ℕ). (unit_of s u).taken ++ l) (append_assoc (flat_map (will_write u d.state H) (queue_of s u)) (will_write u d.state H asking_request) (written u H))
            ∙ ap (λ (l : List ℕ). (unit_of s u).taken ++ (l ++ (will_write u d.state H asking_request ++ written u H))) (sym w)
            ∙ ap (λ (l : List ℕ). (unit_of s u).taken ++ (flat_map (will_write u s (Entered s x d ∷ H)) (queue_of s u) ++ (l ++ written u H))) (new_write bound);
        given = acc.given ∙ ap (λ (q : List Request). (unit_of s u).given ++ (flat_map (will_read u d.state H) q ++ read u H)) asked_queue
            ∙ ap (λ (l : List ℕ). (unit_of s u).given ++ (l ++ read u H)) (joined-enqueue (will_read u d.state H) asking_request (queue_of s u))
            ∙ ap (λ (l : List ℕ). (unit_of s u).given ++ l) (append_assoc (flat_map (will_read u d.state H) (queue_of s u)) (will_read u d.state H asking_request) (read u H))
            ∙ ap (λ (l : List ℕ). (unit_of s u).given ++ (l ++ (will_read u d.state H asking_request ++ read u H))) (sym r)
            ∙ ap (λ (l : List ℕ). (unit_of s u).given ++ (flat_map (will_read u s (Entered s x d ∷ H)) (queue_of s u) ++ (l ++ read u H))) new_read;
      }

-- A service --------------------------------------------------------------------------------------------------------------------
take-one : (n x : ℕ) → eqb n 0 ≡ false → take n (x ∷ []) ≡ x ∷ []
take-one zero x e = absurd (false≢true (sym e))
take-one (suc zero) x e = refl
take-one (suc (suc n)) x e = refl

module _ (u : ℕ) (s : State) (h : Sound s) (low : u < 4) (r : Request) (rs : List Request) (q : queue_of s u ≡ r ∷ rs) (H : List Entry) (now : State) where
  abbrev v : Move
  v = move_of u r s

  abbrev w : Bool
  w = writes (task_of s r.task).kind

  lowq : u < length s.queues
  lowq = let z = h.queues in omega arith

  lowu : u < length s.units
  lowu = let z = h.units in omega arith

  fit : Fitting (task_of s r.task) r
  fit = fitting (task_of s r.task) r (and_parts (fits (task_of s r.task) r) (all_fit s.table rs) (subst (λ (l : List Request). all_fit s.table l ≡ true) q (h.requests u))).0

  waits-first : waits_at r.task u s ≡ true
  waits-first = subst (λ (l : List Request). has r.task (askers l) ≡ true) (sym q) (grind (arith, nat_tests))

  -- whether the service took a byte from the first: if the unit has room
  takes_first : (d : Done) → is_granted d.answer ≡ true → takes_from r.task u (Entered s (Service u) d) ≡ not (eqb (unit_of s u).room 0)
  takes_first d g =
      let a : is_first r.task (queue_of s u) ≡ true = ap (is_first r.task) q ∙ eq-eqb r.task r.task refl in
      let b = eq-eqb u u refl in grind arith

  takes-other : (d : Done) (k : ℕ) → 1 ≤ count k (askers rs) → takes_from k u (Entered s (Service u) d) ≡ false
  takes-other d k i = let a : is_first k (queue_of s u) ≡ false = ap (is_first k) q ∙ first-only s h u r rs lowq q k i in grind arith

  counts-first : (d : Done) → is_granted d.answer ≡ true → count_by (takes_from r.task u) (during r.task u (Entered s (Service u) d ∷ H)) ≡ bit (not (eqb (unit_of s u).room 0)) 1 + count_by (takes_from r.task u) (during r.task u H)
  counts-first d g =
      ap (count_by (takes_from r.task u)) (during-more r.task u s (Service u) d H waits-first)
      ∙ sum_by-cons (λ z. cond (takes_from r.task u z) 1 0) (Entered s (Service u) d) (during r.task u H)
      ∙ ap (λ (b : Bool). cond b 1 0 + count_by (takes_from r.task u) (during r.task u H)) (takes_first d g)

  in_rest : (k : ℕ) → 1 ≤ count k (askers rs) → 1 ≤ count k (askers (queue_of s u))
  in_rest k i = let z : count k (askers (queue_of s u)) ≡ one k r.task + count k (askers rs) = ap (λ (l : List Request). count k (askers l)) q in omega arith

  -- it goes on
  module _ (n : v.ends ≡ None) where
    abbrev on : Done
    on = going_on u r rs v s

    abbrev r' : Request
    r' = record { task = r.task; size = r.size; moved = v.moved }

    on_queue : queue_of on.state u ≡ r' ∷ rs
    on_queue = queue_here s u (r' ∷ rs) lowq

    on-unit : unit_of on.state u ≡ v.unit
    on-unit = get_or-set_same s.units u v.unit (fresh [] 0 0) lowu

    on-write : will_write u s (Entered s (Service u) on ∷ H) r ≡ put_in w r (task_of s r.task).bytes (unit_of s u) ++ will_write u on.state H r'
    on-write =
        let c = count_by (takes_from r.task u) (during r.task u H) in
        go w refl fit.long fit.below ((moved u r s).room n) (counts-first on refl)
        ∙ ap (λ (l : Load). put_in w r (task_of s r.task).bytes (unit_of s u) ++ writes_yet v.moved l c) (sym (on-load s h u r rs lowq q))
      where
        go : (b : Bool) → w ≡ b → length (task_of s r.task).bytes ≡ cond b r.size r.moved → r.moved < r.size → (b ≡ true → eqb (unit_of s u).room 0 ≡ false)
            → count_by (takes_from r.task u) (during r.task u (Entered s (Service u) (going_on u r rs (move_of u r s) s) ∷ H)) ≡ bit (not (eqb (unit_of s u).room 0)) 1 + count_by (takes_from r.task u) (during r.task u H)
            → cond b (take (count_by (takes_from r.task u) (during r.task u (Entered s (Service u) (going_on u r rs (move_of u r s) s) ∷ H))) (drop r.moved (task_of s r.task).bytes)) []
            ≡ put_in b r (task_of s r.task).bytes (unit_of s u) ++ cond b (take (count_by (takes_from r.task u) (during r.task u H)) (drop (move_of u r s).moved (move_of u r s).bytes)) []
        go true e long below room n' =
            let m = r.moved in let b = (task_of s r.task).bytes in let c = count_by (takes_from r.task u) (during r.task u H) in
            let same : (move_of u r s).bytes ≡ b = (moved u r s).bytes ∙ ap (λ (z : Bool). b ++ had_from z (unit_of s u)) e ∙ append-nil b in
            let one : bit (not (eqb (unit_of s u).room 0)) 1 + c ≡ suc c = ap (λ (z : Bool). bit (not z) 1 + c) (room refl) ∙ omega arith in
            ap (λ (j : ℕ). take j (drop m b)) (n' ∙ one) ∙ ap (take (suc c)) (drop_more b m 0 (omega arith))
            ∙ ap (λ (l : List ℕ). get_or b m 0 ∷ take c l) (ap (λ (j : ℕ). drop j b) (sym ((moved u r s).one_more n)) ∙ ap (drop (move_of u r s).moved) (sym same))
            ∙ ap (λ (l : List ℕ). l ++ take c (drop (move_of u r s).moved (move_of u r s).bytes)) (sym (take-one (unit_of s u).room (get_or b m 0) (room refl)))
        go false e long below room n' = refl

    on_read : Grown (task_of on.state r.task).bytes (task_of (state_after on.state (during r.task u H)) r.task).bytes
        → will_read u s (Entered s (Service u) on ∷ H) r ≡ had_from w (unit_of s u) ++ will_read u on.state H r'
    on_read grown =
        let B = (task_of (state_after on.state (during r.task u H)) r.task).bytes in
        ap (λ (l : List Entry). reads_yet r.moved (task_of s r.task).kind (task_of (state_after s l) r.task).bytes) (during-more r.task u s (Service u) on H waits-first)
        ∙ go w refl fit.long ((moved u r s).came n) ((moved u r s).one_more n) grown.more (grown.is ∙ ap (λ (l : List ℕ). l ++ grown.more) (ap (λ (l : Load). l.1) (on-load s h u r rs lowq q) ∙ (moved u r s).bytes))
        ∙ ap (λ (l : Load). had_from w (unit_of s u) ++ reads_yet v.moved l.0 B) (sym (on-load s h u r rs lowq q))
      where
        go : (b : Bool) → w ≡ b → length (task_of s r.task).bytes ≡ cond b r.size r.moved → (b ≡ false → length (had_from b (unit_of s u)) ≡ 1) → (move_of u r s).moved ≡ r.moved + 1 → (more : List ℕ)
            → (task_of (state_after (going_on u r rs (move_of u r s) s).state (during r.task u H)) r.task).bytes ≡ ((task_of s r.task).bytes ++ had_from b (unit_of s u)) ++ more
            → cond b [] (drop r.moved (task_of (state_after (going_on u r rs (move_of u r s) s).state (during r.task u H)) r.task).bytes)
            ≡ had_from b (unit_of s u) ++ cond b [] (drop (move_of u r s).moved (task_of (state_after (going_on u r rs (move_of u r s) s).state (during r.task u H)) r.task).bytes)
        go true e long one next more is = refl
        go false e long one next more is =
            let b = (task_of s r.task).bytes in let got = had_from false (unit_of s u) in
            let o = one refl in
            ap (drop r.moved) (is ∙ append_assoc b got more) ∙ drop_at b (got ++ more) r.moved long
            ∙ ap (λ (l : List ℕ). got ++ l) (sym (ap (drop (move_of u r s).moved) is ∙ drop_at (b ++ got) more (move_of u r s).moved (length-append b got ∙ omega arith)))

    on_account : Grown (task_of on.state r.task).bytes (task_of (state_after on.state (during r.task u H)) r.task).bytes → Account u on.state H now → Account u s (Entered s (Service u) on ∷ H) now
    on_account grown acc =
        let m = moved u r s in
        let same : (k : ℕ) → 1 ≤ count k (askers rs) → load (task_of on.state k) ≡ load (task_of s k) = λ k i. on-others s h u r rs lowq q k (first-only s h u r rs lowq q k i) in
        let x = writes-on u s h low (Service u) on H now rs in_rest (takes-other on) same in
        let z = reads_on u s h low (Service u) on H now rs in_rest (takes-other on) same in
        let b = (task_of s r.task).bytes in
        serves-first u s h low (Service u) on H now r rs (put_in w r b (unit_of s u)) (had_from w (unit_of s u)) q refl
        (ap (λ (y : Medium). y.taken) on-unit ∙ m.taken) (ap (λ (y : Medium). y.given) on-unit ∙ m.given)
        (ap (λ (l : List ℕ). l ++ flat_map (will_write u s (Entered s (Service u) on ∷ H)) rs) on-write ∙ append_assoc (put_in w r b (unit_of s u)) (will_write u on.state H r') _
        ∙ ap (λ (l : List ℕ). put_in w r b (unit_of s u) ++ (will_write u on.state H r' ++ l)) x ∙ ap (λ (l : List Request). put_in w r b (unit_of s u) ++ flat_map (will_write u on.state H) l) (sym on_queue))
        (ap (λ (l : List ℕ). l ++ flat_map (will_read u s (Entered s (Service u) on ∷ H)) rs) (on_read grown) ∙ append_assoc (had_from w (unit_of s u)) (will_read u on.state H r') _
        ∙ ap (λ (l : List ℕ). had_from w (unit_of s u) ++ (will_read u on.state H r' ++ l)) z ∙ ap (λ (l : List Request). had_from w (unit_of s u) ++ flat_map (will_read u on.state H) l) (sym on_queue))
        acc

  -- it ends
  module _ (o : Outcome) where
    abbrev end : Done
    end = ending u r rs v o s

    end_queue : queue_of end.state u ≡ rs
    end_queue = queue_here s u rs lowq

    end-unit : unit_of end.state u ≡ v.unit
    end-unit = get_or-set_same s.units u v.unit (fresh [] 0 0) lowu

    -- the task waits there no more
    gone : waits_at r.task u end.state ≡ false
    gone = subst (λ (l : List Request). has r.task (askers l) ≡ false) (sym end_queue) (⊎_elim
        (λ (i : has r.task (askers rs) ≡ true). absurd (false≢true (sym (first-only s h u r rs lowq q r.task (some-count r.task (askers rs) i)) ∙ eq-eqb r.task r.task refl)))
        (λ (i : has r.task (askers rs) ≡ false). i) (cases_Bool (has r.task (askers rs))))

    module _ (over : during r.task u H ≡ []) where
      end-write : will_write u s (Entered s (Service u) end ∷ H) r ≡ put_in w r (task_of s r.task).bytes (unit_of s u)
      end-write = go w refl fit.long fit.below (unit_of s u).room refl (counts-first end refl ∙ ap (λ (l : List Entry). bit (not (eqb (unit_of s u).room 0)) 1 + count_by (takes_from r.task u) l) over)
        where
          go : (b : Bool) → w ≡ b → length (task_of s r.task).bytes ≡ cond b r.size r.moved → r.moved < r.size → (room : ℕ) → (unit_of s u).room ≡ room
              → count_by (takes_from r.task u) (during r.task u (Entered s (Service u) (ending u r rs (move_of u r s) o s) ∷ H)) ≡ bit (not (eqb (unit_of s u).room 0)) 1 + 0
              → cond b (take (count_by (takes_from r.task u) (during r.task u (Entered s (Service u) (ending u r rs (move_of u r s) o s) ∷ H))) (drop r.moved (task_of s r.task).bytes)) []
              ≡ put_in b r (task_of s r.task).bytes (unit_of s u)
          go true e long below zero room n =
              let b = (task_of s r.task).bytes in
              ap (λ (j : ℕ). take j (drop r.moved b)) (n ∙ ap (λ (j : ℕ). bit (not (eqb j 0)) 1 + 0) room) ∙ ap (λ (j : ℕ). take j (get_or b r.moved 0 ∷ [])) (sym room)
          go true e long below (suc j) room n =
              let b = (task_of s r.task).bytes in
              let full : eqb (unit_of s u).room 0 ≡ false = ne_eqb (unit_of s u).room 0 (λ z. omega arith) in
              ap (λ (i : ℕ). take i (drop r.moved b)) (n ∙ ap (λ (z : Bool). bit (not z) 1 + 0) full) ∙ ap (take 1) (drop_more b r.moved 0 (omega arith)) ∙ sym (take-one (unit_of s u).room (get_or b r.moved 0) full)
          go false e long below room er n = refl

      end_read : will_read u s (Entered s (Service u) end ∷ H) r ≡ had_from w (unit_of s u)
      end_read =
          ap (λ (l : List Entry). reads_yet r.moved (task_of s r.task).kind (task_of (state_after s l) r.task).bytes) (during-more r.task u s (Service u) end H waits-first ∙ ap (λ (l : List Entry). Entered s (Service u) end ∷ l) over)
          ∙ go w refl fit.long (ap (λ (l : Load). l.1) (end-load s h u r rs lowq q o) ∙ (moved u r s).bytes)
        where
          go : (b : Bool) → w ≡ b → length (task_of s r.task).bytes ≡ cond b r.size r.moved → (task_of (ending u r rs (move_of u r s) o s).state r.task).bytes ≡ (task_of s r.task).bytes ++ had_from b (unit_of s u)
              → cond b [] (drop r.moved (task_of (ending u r rs (move_of u r s) o s).state r.task).bytes) ≡ had_from b (unit_of s u)
          go true e long is = refl
          go false e long is = ap (drop r.moved) is ∙ drop_at (task_of s r.task).bytes (had_from false (unit_of s u)) r.moved long

      end_account : Account u end.state H now → Account u s (Entered s (Service u) end ∷ H) now
      end_account acc =
          let m = moved u r s in
          let same : (k : ℕ) → 1 ≤ count k (askers rs) → load (task_of end.state k) ≡ load (task_of s k) = λ k i. end-others s h u r rs lowq q o k (first-only s h u r rs lowq q k i) in
          let x = writes-on u s h low (Service u) end H now rs in_rest (takes-other end) same in
          let z = reads_on u s h low (Service u) end H now rs in_rest (takes-other end) same in
          let b = (task_of s r.task).bytes in
          serves-first u s h low (Service u) end H now r rs (put_in w r b (unit_of s u)) (had_from w (unit_of s u)) q refl
          (ap (λ (y : Medium). y.taken) end-unit ∙ m.taken) (ap (λ (y : Medium). y.given) end-unit ∙ m.given)
          (ap (λ (l : List ℕ). l ++ flat_map (will_write u s (Entered s (Service u) end ∷ H)) rs) end-write ∙ ap (λ (l : List ℕ). put_in w r b (unit_of s u) ++ l) x ∙ ap (λ (l : List Request). put_in w r b (unit_of s u) ++ flat_map (will_write u end.state H) l) (sym end_queue))
          (ap (λ (l : List ℕ). l ++ flat_map (will_read u s (Entered s (Service u) end ∷ H)) rs) end_read ∙ ap (λ (l : List ℕ). had_from w (unit_of s u) ++ l) z ∙ ap (λ (l : List Request). had_from w (unit_of s u) ++ flat_map (will_read u end.state H) l) (sym end_queue))
          acc

-- Runs -------------------------------------------------------------------------------------------------------------------------
module _ (u : ℕ) (low : u < 4) where
  unit_there : (s : State) (v : ℕ) (m : Medium) → eqb v u ≡ false → get_or (set s.units v m) u (fresh [] 0 0) ≡ unit_of s u
  unit_there s v m b = get_or-set_other s.units v u m (fresh [] 0 0) (λ z. eqb-false v u b (sym z))

  -- what the steps that follow, xs, must show of the state after this one
  record Later (s : State) (H : List Entry) : Type 0 where
    over : (t : ℕ) → waits_at t u s ≡ false → during t u H ≡ []
    grown : (t : ℕ) → waits_at t u s ≡ true → Grown (task_of s t).bytes (task_of (state_after s (during t u H)) t).bytes
    bound : (t : ℕ) → waits_at t u s ≡ true → count_by (takes_from t u) (during t u H) ≤ own t (queue_of s u)

  module _ (s : State) (h : Sound s) (H : List Entry) (now : State) where
    lowv : (v : ℕ) → v < 4 → v < length s.queues
    lowv v l = let z = h.queues in omega arith

    new_waits : (t : ℕ) (k : TransferKind) (bytes : List ℕ) (size : ℕ) → waits_at t u (asking t u k bytes size s).state ≡ true
    new_waits t k bytes size = let r : Request = record { task = t; size = size; moved = 0 } in
        subst (λ (q : List Request). has t (askers q) ≡ true) (sym (queue_here s u (enqueue r (queue_of s u)) (lowv u low))) (has_enqueued t r (queue_of s u) refl)

    first-waits : (r : Request) (rs : List Request) → waits_at r.task u (going_on u r rs (move_of u r s) s).state ≡ true
    first-waits r rs = subst (λ (q : List Request). has r.task (askers q) ≡ true) (sym (queue_here s u _ (lowv u low))) (grind (arith, nat_tests))

    apart_account : {x : Step} {d : Done} → Apart s x d → Account u d.state H now → Account u s (Entered s x d ∷ H) now
    apart_account {x} {d} p acc = passes u s h low x d H now (ap (λ (l : List Medium). get_or l u (fresh [] 0 0)) p.units) (ap (λ (l : List (List Request)). get_or l u []) p.queues) (p.unserved u) (p.unasked u) (λ k i. p.loads k (asker_of s h u k i)) acc

    at_account : {x : Step} {d : Done} → AtUnit s x d → Later d.state H → Account u d.state H now → Account u s (Entered s x d ∷ H) now
    at_account (asks_it t v y k bytes size e l a) later acc = ⊎_elim
        (λ (b : eqb v u ≡ true). back (eqb-true v u b) later acc)
        (λ (b : eqb v u ≡ false). passes u s h low (Transfer v y) (asking t v k bytes size s) H now refl (queue_there s v u _ b) refl (ap (λ (c : Bool). cond c (Some y) None) b)
        (λ j i. asked-others s h t v k bytes size e j (caller-asks-not s h t j e (asker_of s h u j i))) acc)
        (cases_Bool (eqb v u))
      where
        here : Later (asking t u k bytes size s).state H → Account u (asking t u k bytes size s).state H now → Account u s (Entered s (Transfer u y) (asking t u k bytes size s) ∷ H) now
        here later acc = asks_account u s h low t y k bytes size e a H now (later.bound t (new_waits t k bytes size)) acc

        back : v ≡ u → Later (asking t v k bytes size s).state H → Account u (asking t v k bytes size s).state H now → Account u s (Entered s (Transfer v y) (asking t v k bytes size s) ∷ H) now
        back q = subst (λ (z : ℕ). Later (asking t z k bytes size s).state H → Account u (asking t z k bytes size s).state H now → Account u s (Entered s (Transfer z y) (asking t z k bytes size s) ∷ H) now) (sym q) here
    at_account (moves-on v r rs l q a) later acc = ⊎_elim
        (λ (b : eqb v u ≡ true). back (eqb-true v u b) q a later acc)
        (λ (b : eqb v u ≡ false). passes u s h low (Service v) (going_on v r rs (move_of v r s) s) H now (unit_there s v _ b) (queue_there s v u _ b) (ap (λ (c : Bool). c && true) b) refl
        (λ j i. on-others s h v r rs (lowv v l) q j (first-here s h v r rs (lowv v l) q u j b i)) acc)
        (cases_Bool (eqb v u))
      where
        here : queue_of s u ≡ r ∷ rs → (move_of u r s).ends ≡ None → Later (going_on u r rs (move_of u r s) s).state H → Account u (going_on u r rs (move_of u r s) s).state H now → Account u s (Entered s (Service u) (going_on u r rs (move_of u r s) s) ∷ H) now
        here q a later acc = on_account u s h low r rs q H now a (later.grown r.task (first-waits r rs)) acc

        back : v ≡ u → queue_of s v ≡ r ∷ rs → (move_of v r s).ends ≡ None → Later (going_on v r rs (move_of v r s) s).state H → Account u (going_on v r rs (move_of v r s) s).state H now → Account u s (Entered s (Service v) (going_on v r rs (move_of v r s) s) ∷ H) now
        back p = subst (λ (z : ℕ). queue_of s z ≡ r ∷ rs → (move_of z r s).ends ≡ None → Later (going_on z r rs (move_of z r s) s).state H → Account u (going_on z r rs (move_of z r s) s).state H now → Account u s (Entered s (Service z) (going_on z r rs (move_of z r s) s) ∷ H) now) (sym p) here
    at_account (moves-last v r rs o l q a) later acc = ⊎_elim
        (λ (b : eqb v u ≡ true). back (eqb-true v u b) q later acc)
        (λ (b : eqb v u ≡ false). passes u s h low (Service v) (ending v r rs (move_of v r s) o s) H now (unit_there s v _ b) (queue_there s v u _ b) (ap (λ (c : Bool). c && true) b) refl
        (λ j i. end-others s h v r rs (lowv v l) q o j (first-here s h v r rs (lowv v l) q u j b i)) acc)
        (cases_Bool (eqb v u))
      where
        here : queue_of s u ≡ r ∷ rs → Later (ending u r rs (move_of u r s) o s).state H → Account u (ending u r rs (move_of u r s) o s).state H now → Account u s (Entered s (Service u) (ending u r rs (move_of u r s) o s) ∷ H) now
        here q later acc = end_account u s h low r rs q H now o (later.over r.task (gone u s h low r rs q H now o)) acc

        back : v ≡ u → queue_of s v ≡ r ∷ rs → Later (ending v r rs (move_of v r s) o s).state H → Account u (ending v r rs (move_of v r s) o s).state H now → Account u s (Entered s (Service v) (ending v r rs (move_of v r s) o s) ∷ H) now
        back p = subst (λ (z : ℕ). queue_of s z ≡ r ∷ rs → Later (ending z r rs (move_of z r s) o s).state H → Account u (ending z r rs (move_of z r s) o s).state H now → Account u s (Entered s (Service z) (ending z r rs (move_of z r s) o s) ∷ H) now) (sym p) here

    account_step : {x : Step} {d : Done} → Shape s x d → Later d.state H → Account u d.state H now → Account u s (Entered s x d ∷ H) now
    account_step {x} {d} z later acc = ⊎_elim (λ (p : Apart s x d). apart_account p acc) (λ (p : AtUnit s x d). at_account p later acc) (sorted-out s h.one_place z)

  account_run : (s : State) (xs : List Step) → All Lawful xs → Sound s → Account u s (history s xs) (after s xs)
  account_run s [] ok g = record {
    taken = sym (ap (λ (l : List ℕ). (unit_of s u).taken ++ (l ++ [])) (none_written u s (queue_of s u)) ∙ append-nil (unit_of s u).taken);
    given = sym (ap (λ (l : List ℕ). (unit_of s u).given ++ (l ++ [])) (none_read u s (queue_of s u) (g.requests u)) ∙ append-nil (unit_of s u).given);
  }
  account_run s (x ∷ xs) ok g =
      let s' = (apply x s).state in
      let g' = sound-step s x (All-head Lawful x xs ok) g in
      account_step s g (history s' xs) (after s' xs) (shape s x)
      (record { over = λ t w. during-none t u s' xs w; grown = λ t w. grown_run t u s' xs (All-tail Lawful x xs ok) g' w; bound = λ t w. own_run t u s' xs (All-tail Lawful x xs ok) g' w })
      (account_run s' xs (All-tail Lawful x xs ok) g')

pub units_law : OfEveryRun UnitLaws
units_law start past h ok = subst (λ (s : State). UnitLaws s past (after s past)) (sym h.is) (λ u low.
    let s = begin h.tasks h.timed h.units in
    let a = account_run u low s past ok (good_begin h.tasks h.timed h.units h.some h.four).sound in
    let q : queue_of s u ≡ [] = get_or-replicate 4 u [] [] low in
    record {
      taken = a.taken ∙ ap (λ (l : List Request). (unit_of s u).taken ++ (flat_map (will_write u s (history s past)) l ++ written u (history s past))) q;
      given = a.given ∙ ap (λ (l : List Request). (unit_of s u).given ++ (flat_map (will_read u s (history s past)) l ++ read u (history s past))) q;
    })

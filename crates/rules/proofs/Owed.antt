-- How long a wait at a unit lasts: what is owed up to a request falls with every granted service.
use Rattle.std.proofs.Common.{◌≡◌, ℕ, ◌+◌, ◌<◌, ◌≤◌, Bool, true, false, cond, ◌&&◌, eqb, ◌⊎◌, List, [], ◌∷◌, ◌++◌, length, get_or, set, Some, None, All, count_by, sym, refl, ap, ◌∙◌, subst, inl, inr, ⊎_elim, arith}
use Rattle.std.proofs.lemmas.List.Elements.{All-nil, All-cons, All-head, All-tail}
use Rattle.std.proofs.lemmas.List.Sums.{sum_by-cons}
use Rattle.std.proofs.lemmas.Bool.{and_parts, cases_Bool, eqb-true, eqb-false, eq-eqb, false≢true}
use Rattle.std.proofs.lemmas.Bool.Decides.{nat_tests}
use Rattle.calls.specs.declared.call.Call.TheVariants.{Transfer, Service}
use Rattle.calls.specs.declared.call.Transfer as transfer
use Rattle.chain.specs.Lists.{count, has, one}
use Rattle.chain.proofs.Members.{none-count, some-count}
use Rattle.rules.specs.State.{Request, State, Table, queue_of, record_in}
use Rattle.rules.specs.Acts.{Done}
use Rattle.rules.specs.Records.{askers, bit}
use Rattle.rules.specs.Transfers.{asking, ending, enqueue, going_on, move_of}
use Rattle.rules.specs.Rules.{Step, apply}
use Rattle.rules.specs.Runs.{after, entry, history}
use Rattle.rules.specs.Sound.{Sound, all_fit, fits}
use Rattle.rules.specs.Laws.{Deadlines, Lawful, OfEveryRun, Stays, asks_of, is_granted, owed, owes, served, serves, waits_at}
use Rattle.rules.proofs.Counts.{one_same}
use Rattle.rules.proofs.Waits.{count-enqueue}
use Rattle.rules.proofs.Moves.{Apart, AtUnit, asks_it, moved, moves-last, moves-on, sorted-out}
use Rattle.rules.proofs.Requests.{fitting, queue_here, queue_once, queue_there}
use Rattle.rules.proofs.Shapes.{Shape, shape}
use Rattle.rules.proofs.Sounds.{soundness_law, sound-step}

pub count-some : (k : ℕ) (xs : List ℕ) → 1 ≤ count k xs → has k xs ≡ true
count-some k xs h = ⊎_elim (λ (e : has k xs ≡ true). e) (λ (e : has k xs ≡ false). let z = none-count k xs e in let f : ⊥ = omega arith in absurd f) (cases_Bool (has k xs))

-- each request of a queue owes a byte at least
pub first-owes : (a : Table) (r : Request) (rs : List Request) → all_fit a (r ∷ rs) ≡ true → (r.moved < r.size) × (all_fit a rs ≡ true)
first-owes a r rs f = let p = and_parts (fits (record_in a r.task) r) (all_fit a rs) f in ((fitting (record_in a r.task) r p.0).below, p.1)

-- owed up to t's request, its own included
abbrev dues : ℕ → List Request → ℕ
dues t [] = 0
dues t (r ∷ rs) = owes r + cond (eqb r.task t) 0 (dues t rs)

dues-owed : (t : ℕ) (q : List Request) → dues t q ≤ owed q
dues-owed t [] = omega arith
dues-owed t (r ∷ rs) = let ih = dues-owed t rs in let c = sum_by-cons owes r rs in grind (arith, nat_tests)

dues-some : (a : Table) (t : ℕ) (q : List Request) → all_fit a q ≡ true → has t (askers q) ≡ true → 1 ≤ dues t q
dues-some a t [] f h = absurd (false≢true h)
dues-some a t (r ∷ rs) f h = let b = (first-owes a r rs f).0 in omega arith

dues-enqueue : (t : ℕ) (r : Request) (q : List Request) → has t (askers q) ≡ true → dues t (enqueue r q) ≡ dues t q
dues-enqueue t r [] h = absurd (false≢true h)
dues-enqueue t r (x ∷ xs) h = let ih = dues-enqueue t r xs in grind (arith, nat_tests)

-- one step, for t at the unit u
module _ (u t : ℕ) (s : State) (h : Sound s) where
  same_queue : (x : Step) (d : Done) → (serves u x && is_granted d.answer) ≡ false → queue_of d.state u ≡ queue_of s u
      → bit (served u (record { before = s; step = x; did = d })) 1 + dues t (queue_of d.state u) ≤ dues t (queue_of s u)
  same_queue x d n q = let a : bit (served u (record { before = s; step = x; did = d })) 1 ≡ 0 = ap (λ (b : Bool). bit b 1) n in let b : dues t (queue_of d.state u) ≡ dues t (queue_of s u) = ap (dues t) q in omega arith

  falls_at : {x : Step} {d : Done} → AtUnit s x d → waits_at t u s ≡ true → waits_at t u d.state ≡ true
      → bit (served u (record { before = s; step = x; did = d })) 1 + dues t (queue_of d.state u) ≤ dues t (queue_of s u)
  falls_at (asks_it c v y k bytes size e l a) w w' =
      let low : v < length s.queues = (let z = h.queues in omega arith) in
      let r : Request = record { task = c; size = size; moved = 0 } in
      ⊎_elim
      (λ (b : eqb v u ≡ true). let vu = eqb-true v u b in
      let q : queue_of (asking c v k bytes size s).state u ≡ enqueue r (queue_of s u) = subst (λ (z : ℕ). get_or (set s.queues v (enqueue r (queue_of s v))) z [] ≡ enqueue r (queue_of s z)) vu (queue_here s v (enqueue r (queue_of s v)) low) in
      let f : dues t (queue_of (asking c v k bytes size s).state u) ≡ dues t (queue_of s u) = ap (dues t) q ∙ dues-enqueue t r (queue_of s u) w in omega arith)
      (λ (b : eqb v u ≡ false). same_queue (Transfer v y) (asking c v k bytes size s) refl (queue_there s v u (enqueue r (queue_of s v)) b))
      (cases_Bool (eqb v u))
  falls_at (moves-on v r rs l q a) w w' =
      let low : v < length s.queues = (let z = h.queues in omega arith) in
      let r' : Request = record { task = r.task; size = r.size; moved = (move_of v r s).moved } in
      ⊎_elim
      (λ (b : eqb v u ≡ true). let vu = eqb-true v u b in
      let q0 : queue_of s u ≡ r ∷ rs = subst (λ (z : ℕ). queue_of s z ≡ r ∷ rs) vu q in
      let q1 : queue_of (going_on v r rs (move_of v r s) s).state u ≡ r' ∷ rs = subst (λ (z : ℕ). get_or (set s.queues v (r' ∷ rs)) z [] ≡ r' ∷ rs) vu (queue_here s v (r' ∷ rs) low) in
      let d0 : dues t (queue_of s u) ≡ dues t (r ∷ rs) = ap (dues t) q0 in let d1 : dues t (queue_of (going_on v r rs (move_of v r s) s).state u) ≡ dues t (r' ∷ rs) = ap (dues t) q1 in
      let f = (first-owes s.table r rs (subst (λ (x : List Request). all_fit s.table x ≡ true) q0 (h.requests u))).0 in
      let m = (moved v r s).one_more a in let z = eqb-false (r.moved + 1) r.size ((moved v r s).not-all a) in
      let y : bit (served u (record { before = s; step = Service v; did = going_on v r rs (move_of v r s) s })) 1 ≡ 1 = ap (λ (c : Bool). bit (c && true) 1) b in omega arith)
      (λ (b : eqb v u ≡ false). same_queue (Service v) (going_on v r rs (move_of v r s) s) (ap (λ (c : Bool). c && true) b) (queue_there s v u (r' ∷ rs) b))
      (cases_Bool (eqb v u))
  falls_at (moves-last v r rs o l q a) w w' =
      let low : v < length s.queues = (let z = h.queues in omega arith) in
      ⊎_elim
      (λ (b : eqb v u ≡ true). let vu = eqb-true v u b in
      let q0 : queue_of s u ≡ r ∷ rs = subst (λ (z : ℕ). queue_of s z ≡ r ∷ rs) vu q in
      let q1 : queue_of (ending v r rs (move_of v r s) o s).state u ≡ rs = subst (λ (z : ℕ). get_or (set s.queues v rs) z [] ≡ rs) vu (queue_here s v rs low) in
      let d0 : dues t (queue_of s u) ≡ dues t (r ∷ rs) = ap (dues t) q0 in let d1 : dues t (queue_of (ending v r rs (move_of v r s) o s).state u) ≡ dues t rs = ap (dues t) q1 in
      let f = (first-owes s.table r rs (subst (λ (x : List Request). all_fit s.table x ≡ true) q0 (h.requests u))).0 in
      let c = some-count t (askers rs) (subst (λ (x : List Request). has t (askers x) ≡ true) q1 w') in
      let n : count t (askers (queue_of s u)) ≡ one t r.task + count t (askers rs) = ap (λ (x : List Request). count t (askers x)) q0 in
      let once = queue_once s h u t in
      let y : bit (served u (record { before = s; step = Service v; did = ending v r rs (move_of v r s) o s })) 1 ≡ 1 = ap (λ (c : Bool). bit (c && true) 1) b in
      let ne : eqb r.task t ≡ false = grind (arith, nat_tests) in
      let g : cond (eqb r.task t) 0 (dues t rs) ≡ dues t rs = ap (λ (c : Bool). cond c 0 (dues t rs)) ne in omega arith)
      (λ (b : eqb v u ≡ false). same_queue (Service v) (ending v r rs (move_of v r s) o s) (ap (λ (c : Bool). c && true) b) (queue_there s v u rs b))
      (cases_Bool (eqb v u))

  falls : {x : Step} {d : Done} → Shape s x d → waits_at t u s ≡ true → waits_at t u d.state ≡ true
      → bit (served u (record { before = s; step = x; did = d })) 1 + dues t (queue_of d.state u) ≤ dues t (queue_of s u)
  falls {x} {d} w a b = ⊎_elim (λ (p : Apart s x d). same_queue x d (p.unserved u) (ap (λ (qs : List (List Request)). get_or qs u []) p.queues)) (λ (p : AtUnit s x d). falls_at p a b) (sorted-out s h.one_place w)

stays_now : (t u : ℕ) (s : State) (xs : List Step) → Stays t u s xs → waits_at t u s ≡ true
stays_now t u s [] h = h
stays_now t u s (x ∷ xs) h = h.0

wait_run : (t u : ℕ) (s : State) (xs : List Step) → All Lawful xs → Sound s → Stays t u s xs → count_by (served u) (history s xs) < dues t (queue_of s u)
wait_run t u s [] ok g w = dues-some s.table t (queue_of s u) (g.requests u) w
wait_run t u s (x ∷ xs) ok g w =
    let f = falls u t s g (shape s x) w.0 (stays_now t u (apply x s).state xs w.1) in
    let r = wait_run t u (apply x s).state xs (All-tail Lawful x xs ok) (sound-step s x (All-head Lawful x xs ok) g) w.1 in
    let c = sum_by-cons (λ e. cond (served u e) 1 0) (entry s x) (history (apply x s).state xs) in omega arith

-- who is granted a transfer waits
pub has_enqueued : (t : ℕ) (r : Request) (q : List Request) → r.task ≡ t → has t (askers (enqueue r q)) ≡ true
has_enqueued t r q e = count-some t (askers (enqueue r q)) (let c = count-enqueue t r q in let o : one t r.task ≡ 1 = ap (one t) e ∙ one_same t in omega arith)

pub asks-waits : (s : State) → Sound s → (t u : ℕ) (y : transfer.Transfer (List ℕ)) → s.table.running ≡ Some t → is_granted (apply (Transfer u y) s).answer ≡ true → waits_at t u (apply (Transfer u y) s).state ≡ true
asks-waits s h t u y e g = go (sorted-out s h.one_place (shape s (Transfer u y))) refl g
  where
    at : {x : Step} {d : Done} → AtUnit s x d → x ≡ Transfer u y → waits_at t u d.state ≡ true
    at (asks_it c v z k bytes size f l a) q =
        let vu : v ≡ u = cc in let ct : c ≡ t = cc in
        let low : v < length s.queues = (let w = h.queues in omega arith) in
        let r : Request = record { task = c; size = size; moved = 0 } in
        subst (λ (w : ℕ). waits_at t w (asking c v k bytes size s).state ≡ true) vu
        (subst (λ (x : List Request). has t (askers x) ≡ true) (sym (queue_here s v (enqueue r (queue_of s v)) low)) (has_enqueued t r (queue_of s v) ct))
    at (moves-on v r rs l p a) q = let z : ◌≡◌ {A = ℕ} 0 1 = cc in let f : ⊥ = omega arith in absurd f
    at (moves-last v r rs o l p a) q = let z : ◌≡◌ {A = ℕ} 0 1 = cc in let f : ⊥ = omega arith in absurd f

    go : {x : Step} {d : Done} → Apart s x d ⊎ AtUnit s x d → x ≡ Transfer u y → is_granted d.answer ≡ true → waits_at t u d.state ≡ true
    go {x} {d} (inl p) q gr =
        let n : asks_of u x ≡ None = ap (λ (b : Bool). cond b (asks_of u x) None) (sym gr) ∙ p.unasked u in
        let m : asks_of u x ≡ Some y = ap (asks_of u) q ∙ ap (λ (b : Bool). cond b (Some y) None) (eq-eqb u u refl) in
        let z : ◌≡◌ {A = ℕ} 0 1 = cc in let f : ⊥ = omega arith in absurd f
    go (inr p) q gr = at p q

pub all-front : (xs ys : List Step) → All Lawful (xs ++ ys) → All Lawful xs
all-front [] ys a = All-nil Lawful
all-front (x ∷ xs) ys a = All-cons Lawful x xs (All-head Lawful x (xs ++ ys) a) (all-front xs ys (All-tail Lawful x (xs ++ ys) a))

all_back : (xs ys : List Step) → All Lawful (xs ++ ys) → All Lawful ys
all_back [] ys a = a
all_back (x ∷ xs) ys a = all_back xs ys (All-tail Lawful x (xs ++ ys) a)

pub deadlines_law : OfEveryRun Deadlines
deadlines_law start past h ok early t u y later is runs gr =
    let both : All Lawful (early ++ Transfer u y ∷ later) = subst (All Lawful) is ok in
    let g = soundness_law start early h (all-front early (Transfer u y ∷ later) both) in
    let s = after start early in
    let g' = sound-step s (Transfer u y) tt g in (
      asks-waits s g t u y runs gr,
      λ stays.
          let r = wait_run t u (apply (Transfer u y) s).state later (All-tail Lawful (Transfer u y) later (all_back early (Transfer u y ∷ later) both)) g' stays in
          let b = dues-owed t (queue_of (apply (Transfer u y) s).state u) in omega arith,
    )

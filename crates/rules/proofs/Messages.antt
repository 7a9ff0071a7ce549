-- The messages of a cell, and who waits there, through every run.
use Rattle.std.proofs.Common.{◌≡◌, ℕ, ◌+◌, ◌<◌, ◌≤◌, Bool, true, false, cond, not, eqb, ◌≢◌, ◌⊎◌, List, [], ◌∷◌, ◌++◌, length, get_or, set, Some, All, count_by, sym, refl, ap, ◌∙◌, subst, inl, inr, ⊎_elim, append_assoc, append-nil, arith}
use Rattle.std.proofs.lemmas.List.Elements.{All-nil, All-head, All-tail, All-push}
use Rattle.std.proofs.lemmas.List.{get_or-replicate, get_or-set_other, get_or-set_same}
use Rattle.std.proofs.lemmas.List.Sums.{sum_by_push}
use Rattle.std.proofs.lemmas.Bool.{cases_Bool, cond_both, eqb-true, eqb-false, false≢true}
use Rattle.std.proofs.lemmas.Bool.Decides.{nat_tests}
use Rattle.calls.specs.declared.call.Call.TheVariants.{Create, Kill, Suspend, SetLevel, ById, Send, Wait, Delay, Transfer, Look, Tick, Service}
use Rattle.calls.specs.declared.refusal.Refusal.{Refusal}
use Rattle.chain.specs.Lists.{has, rest}
use Rattle.rules.specs.State.{CellWait, Cells, State, begin, word_of}
use Rattle.rules.specs.Acts.{Done, refuse}
use Rattle.rules.specs.Records.{bit, without_waiter}
use Rattle.rules.specs.Mail.{awaiting, delivering, elsewhere, none, posting, taking, tasks_at, waiting_at, without_first_at}
use Rattle.rules.specs.Rules.{Step, apply}
use Rattle.rules.specs.Runs.{Entry, after, entry, history}
use Rattle.rules.specs.Sound.{Sound}
use Rattle.rules.specs.Laws.{AsReceiver, AsSender, Began, CellLaws, Lawful, OfEveryRun, full, handed, is_granted, sends_to, sent, took_later, waits_for}
use Rattle.rules.proofs.Sounds.{good_begin, sound-step}
use Rattle.rules.proofs.Shapes.{Shape, quiet, shape, refuses, tells-only, creates, kills, suspends, levels, turns, kills-other, readies_other, suspends-other, levels-other, posts, delivers, awaits, takes, delays, ticks, asks, goes_on, ends}

-- Who waits at a cell ---------------------------------------------------------------------------------------------------------
at-last-here : (t c : ℕ) (ws : List CellWait) → tasks_at c (ws ++ (record { task = t; cell = c }) ∷ []) ≡ tasks_at c ws ++ t ∷ []
at-last-here t c [] = grind (arith, nat_tests)
at-last-here t c (w ∷ ws) = let ih = at-last-here t c ws in go (eqb w.cell c) ih
  where
    go : (b : Bool) → tasks_at c (ws ++ (record { task = t; cell = c }) ∷ []) ≡ tasks_at c ws ++ t ∷ []
        → cond b (w.task ∷ tasks_at c (ws ++ (record { task = t; cell = c }) ∷ [])) (tasks_at c (ws ++ (record { task = t; cell = c }) ∷ [])) ≡ cond b (w.task ∷ tasks_at c ws) (tasks_at c ws) ++ t ∷ []
    go true ih = ap (λ (l : List ℕ). w.task ∷ l) ih
    go false ih = ih

at-last_there : (t c k : ℕ) (ws : List CellWait) → eqb k c ≡ false → tasks_at c (ws ++ (record { task = t; cell = k }) ∷ []) ≡ tasks_at c ws
at-last_there t c k [] e = grind (arith, nat_tests)
at-last_there t c k (w ∷ ws) e = ap (λ (l : List ℕ). cond (eqb w.cell c) (w.task ∷ l) l) (at-last_there t c k ws e)

at-elsewhere-here : (c : ℕ) (ws : List CellWait) → tasks_at c (elsewhere c ws) ≡ []
at-elsewhere-here c [] = refl
at-elsewhere-here c (w ∷ ws) = let ih = at-elsewhere-here c ws in cond_both (eqb w.cell c) (elsewhere c ws) (w ∷ elsewhere c ws) (λ l. tasks_at c l ≡ []) (λ _. ih) (λ e. grind arith)

at-elsewhere_there : (c k : ℕ) (ws : List CellWait) → eqb k c ≡ false → tasks_at c (elsewhere k ws) ≡ tasks_at c ws
at-elsewhere_there c k [] e = refl
at-elsewhere_there c k (w ∷ ws) e = let ih = at-elsewhere_there c k ws e in
    cond_both (eqb w.cell k) (elsewhere k ws) (w ∷ elsewhere k ws) (λ l. tasks_at c l ≡ tasks_at c (w ∷ ws))
    (λ q. let n : eqb w.cell c ≡ false = grind (arith, nat_tests) in ih ∙ sym (ap (λ (b : Bool). cond b (w.task ∷ tasks_at c ws) (tasks_at c ws)) n))
    (λ q. ap (λ (l : List ℕ). cond (eqb w.cell c) (w.task ∷ l) l) ih)

at-first-here : (c : ℕ) (ws : List CellWait) → tasks_at c (without_first_at c ws) ≡ rest (tasks_at c ws)
at-first-here c [] = refl
at-first-here c (w ∷ ws) = go (eqb w.cell c) refl (at-first-here c ws)
  where
    go : (b : Bool) → eqb w.cell c ≡ b → tasks_at c (without_first_at c ws) ≡ rest (tasks_at c ws) → tasks_at c (cond b ws (w ∷ without_first_at c ws)) ≡ rest (cond b (w.task ∷ tasks_at c ws) (tasks_at c ws))
    go true e ih = refl
    go false e ih = ap (λ (b : Bool). cond b (w.task ∷ tasks_at c (without_first_at c ws)) (tasks_at c (without_first_at c ws))) e ∙ ih

at-first_there : (c k : ℕ) (ws : List CellWait) → eqb k c ≡ false → tasks_at c (without_first_at k ws) ≡ tasks_at c ws
at-first_there c k [] e = refl
at-first_there c k (w ∷ ws) e = let ih = at-first_there c k ws e in
    cond_both (eqb w.cell k) ws (w ∷ without_first_at k ws) (λ l. tasks_at c l ≡ tasks_at c (w ∷ ws))
    (λ q. let n : eqb w.cell c ≡ false = grind (arith, nat_tests) in sym (ap (λ (b : Bool). cond b (w.task ∷ tasks_at c ws) (tasks_at c ws)) n))
    (λ q. ap (λ (l : List ℕ). cond (eqb w.cell c) (w.task ∷ l) l) ih)

-- one wait fewer
record Fewer (xs ys : List ℕ) : Type 0 where
  among : (t : ℕ) → has t xs ≡ true → has t ys ≡ true
  fewer : length xs ≤ length ys

at_left : (c k : ℕ) (ws : List CellWait) → Fewer (tasks_at c (without_waiter k ws)) (tasks_at c ws)
at_left c k [] = record { among = λ t i. i; fewer = omega arith }
at_left c k (w ∷ ws) =
    let ih = at_left c k ws in
    cond_both (eqb w.task k) ws (w ∷ without_waiter k ws) (λ l. Fewer (tasks_at c l) (tasks_at c (w ∷ ws)))
    (λ _. cond_both (eqb w.cell c) (w.task ∷ tasks_at c ws) (tasks_at c ws) (λ l. Fewer (tasks_at c ws) l) (λ _. record { among = λ t i. grind (arith, nat_tests); fewer = omega arith }) (λ _. record { among = λ t i. i; fewer = omega arith }))
    (λ _. go (eqb w.cell c) ih)
  where
    go : (b : Bool) → Fewer (tasks_at c (without_waiter k ws)) (tasks_at c ws) → Fewer (cond b (w.task ∷ tasks_at c (without_waiter k ws)) (tasks_at c (without_waiter k ws))) (cond b (w.task ∷ tasks_at c ws) (tasks_at c ws))
    go true ih = record { among = λ t i. (let a = ih.among t in grind (arith, nat_tests)); fewer = let f = ih.fewer in omega arith }
    go false ih = ih

has_last : (t k : ℕ) (xs : List ℕ) → has t (xs ++ k ∷ []) ≡ true → (has t xs ≡ true) ⊎ (k ≡ t)
has_last t k xs h = ⊎_elim (λ (e : has t xs ≡ true). inl e) (λ (e : has t xs ≡ false). inr (eqb-true k t (only xs h e))) (cases_Bool (has t xs))
  where
    only : (xs : List ℕ) → has t (xs ++ k ∷ []) ≡ true → has t xs ≡ false → eqb k t ≡ true
    only [] h e = grind (arith, nat_tests)
    only (x ∷ xs) h e = only xs (grind (arith, nat_tests)) (grind (arith, nat_tests))

nil_if : (xs : List ℕ) → none xs ≡ true → xs ≡ []
nil_if [] e = refl
nil_if (x ∷ xs) e = absurd (false≢true e)

-- One step, at the cell c -----------------------------------------------------------------------------------------------------
abbrev Entered : State → Step → Done → Entry
Entered s x d = record { before = s; step = x; did = d }

-- who waits there afterwards waited there before, with the same word; or was the caller, and has begun
abbrev Whence : ℕ → State → Step → Done → ℕ → Type 0
Whence c s x d t =
    ((has t (waiting_at s c) ≡ true) × (word_of d.state.cells c ≡ word_of s.cells c))
    ⊎ ((s.table.running ≡ Some t) × ((is_granted d.answer ≡ true) × (AsReceiver c x d.state ⊎ AsSender c x d.state)))

record CellStep (c : ℕ) (s : State) (x : Step) (d : Done) : Type 0 where
  messages : bit (sent c (Entered s x d)) 1 + full s c ≡ bit (handed c (Entered s x d)) 1 + bit (took_later c (Entered s x d)) 1 + full d.state c
  whence : (t : ℕ) → has t (waiting_at d.state c) ≡ true → Whence c s x d t
  alone : (word_of s.cells c ≢ 0 → length (waiting_at s c) ≤ 1) → word_of d.state.cells c ≢ 0 → length (waiting_at d.state c) ≤ 1

abbrev NoMail : ℕ → Step → Type 0
NoMail c x = (sends_to c x ≡ false) × (waits_for c x ≡ false)

no_mail : (c : ℕ) (x : Step) → quiet x ≡ true → NoMail c x
no_mail c (Create id level start message) q = (refl, refl)
no_mail c Kill q = (refl, refl)
no_mail c Suspend q = (refl, refl)
no_mail c (SetLevel level) q = (refl, refl)
no_mail c (ById id call) q = (refl, refl)
no_mail c (Send cell message stay) q = absurd (false≢true q)
no_mail c (Wait cell) q = absurd (false≢true q)
no_mail c (Delay n) q = (refl, refl)
no_mail c (Transfer unit y) q = (refl, refl)
no_mail c (Look at) q = (refl, refl)
no_mail c Tick q = (refl, refl)
no_mail c (Service unit) q = (refl, refl)

-- a step that leaves the word of the cell and those who wait there alone, or takes one of them away
still : (c : ℕ) (s : State) (x : Step) (d : Done) → NoMail c x → word_of d.state.cells c ≡ word_of s.cells c → Fewer (waiting_at d.state c) (waiting_at s c) → CellStep c s x d
still c s x d n w f = record {
  messages = let a = n.0 in let b = n.1 in let e : full d.state c ≡ full s c = ap (λ (m : ℕ). bit (not (eqb m 0)) 1) w in grind arith;
  whence = λ t i. inl (f.among t i, w);
  alone = λ a z. let l = a (λ e. z (w ∙ e)) in let k = f.fewer in omega arith;
}

all_there : (xs ys : List ℕ) → xs ≡ ys → Fewer xs ys
all_there xs ys e = record { among = λ t i. subst (λ (l : List ℕ). has t l ≡ true) e i; fewer = let z = ap length e in omega arith }

same-cells : (c : ℕ) (s : State) (x : Step) (d : Done) → NoMail c x → d.state.cells ≡ s.cells → CellStep c s x d
same-cells c s x d n e = still c s x d n (ap (λ (y : Cells). word_of y c) e) (all_there (waiting_at d.state c) (waiting_at s c) (ap (λ (y : Cells). tasks_at c y.waits) e))

refused-cell : (c : ℕ) (s : State) (x : Step) (r : Refusal) → CellStep c s x (refuse r s)
refused-cell c s x r = record { messages = grind arith; whence = λ t i. inl (i, refl); alone = λ a z. a z }

-- the calls on cells: at the cell itself, and at another
module _ (c : ℕ) (s : State) where
  here_or_there : (k : ℕ) (P : Type 0) → (k ≡ c → P) → (eqb k c ≡ false → P) → P
  here_or_there k P y n = ⊎_elim (λ (e : eqb k c ≡ true). y (eqb-true k c e)) (λ (e : eqb k c ≡ false). n e) (cases_Bool (eqb k c))

  word_there : (k m : ℕ) → eqb k c ≡ false → get_or (set s.cells.words k m) c 0 ≡ word_of s.cells c
  word_there k m e = get_or-set_other s.cells.words k c m 0 (λ z. eqb-false k c e (sym z))

  post_cell : (t m : ℕ) (stay : Bool) → s.table.running ≡ Some t → c < length s.cells.words → word_of s.cells c ≡ 0 → eqb m 0 ≡ false → none (waiting_at s c) ≡ true → CellStep c s (Send c m stay) (posting t c m stay s)
  post_cell t m true e l z nz nn =
      let w : get_or (set s.cells.words c m) c 0 ≡ m = get_or-set_same s.cells.words c m 0 l in
      let q : tasks_at c (s.cells.waits ++ (record { task = t; cell = c }) ∷ []) ≡ t ∷ [] = at-last-here t c s.cells.waits ∙ ap (λ (l : List ℕ). l ++ t ∷ []) (nil_if (waiting_at s c) nn) in
      record {
        messages = let f : full (posting t c m true s).state c ≡ 1 = ap (λ (n : ℕ). bit (not (eqb n 0)) 1) w ∙ ap (λ (b : Bool). bit (not b) 1) nz in let g : full s c ≡ 0 = ap (λ (n : ℕ). bit (not (eqb n 0)) 1) z in grind (arith, nat_tests);
        whence = λ k i. let one : eqb t k ≡ true = (let i' : has k (t ∷ []) ≡ true = subst (λ (l : List ℕ). has k l ≡ true) q i in grind arith) in inr (e ∙ ap Some (eqb-true t k one), (refl, inr (m, (refl, (w, eqb-false m 0 nz)))));
        alone = λ _ _. let f = ap length q in omega arith;
      }
  post_cell t m false e l z nz nn =
      let w : get_or (set s.cells.words c m) c 0 ≡ m = get_or-set_same s.cells.words c m 0 l in
      record {
        messages = let f : full (posting t c m false s).state c ≡ 1 = ap (λ (n : ℕ). bit (not (eqb n 0)) 1) w ∙ ap (λ (b : Bool). bit (not b) 1) nz in let g : full s c ≡ 0 = ap (λ (n : ℕ). bit (not (eqb n 0)) 1) z in grind (arith, nat_tests);
        whence = λ k i. absurd (false≢true (subst (λ (l : List ℕ). has k l ≡ true) (nil_if (waiting_at s c) nn) i));
        alone = λ _ _. let f = ap length (nil_if (waiting_at s c) nn) in omega arith;
      }

  post_other : (t k m : ℕ) (stay : Bool) → eqb k c ≡ false → CellStep c s (Send k m stay) (posting t k m stay s)
  post_other t k m true n = still c s (Send k m true) (posting t k m true s) (n, refl) (word_there k m n) (all_there _ _ (at-last_there t c k s.cells.waits n))
  post_other t k m false n = still c s (Send k m false) (posting t k m false s) (n, refl) (word_there k m n) (all_there _ _ refl)

  deliver_cell : (m : ℕ) (stay : Bool) → word_of s.cells c ≡ 0 → none (waiting_at s c) ≡ false → CellStep c s (Send c m stay) (delivering c m s)
  deliver_cell m stay z nn = record {
    messages = let g : full s c ≡ 0 = ap (λ (n : ℕ). bit (not (eqb n 0)) 1) z in grind (arith, nat_tests);
    whence = λ k i. absurd (false≢true (subst (λ (l : List ℕ). has k l ≡ true) (at-elsewhere-here c s.cells.waits) i));
    alone = λ _ _. let f = ap length (at-elsewhere-here c s.cells.waits) in omega arith;
  }

  deliver_other : (k m : ℕ) (stay : Bool) → eqb k c ≡ false → CellStep c s (Send k m stay) (delivering k m s)
  deliver_other k m stay n = still c s (Send k m stay) (delivering k m s) (n, refl) refl (all_there _ _ (at-elsewhere_there c k s.cells.waits n))

  await_cell : (t : ℕ) → s.table.running ≡ Some t → word_of s.cells c ≡ 0 → CellStep c s (Wait c) (awaiting t c s)
  await_cell t e z = record {
    messages = grind (arith, nat_tests);
    whence = λ k i. ⊎_elim (λ (j : has k (waiting_at s c) ≡ true). inl (j, refl)) (λ (j : t ≡ k). inr (e ∙ ap Some j, (refl, inl (refl, z))))
        (has_last k t (waiting_at s c) (subst (λ (l : List ℕ). has k l ≡ true) (at-last-here t c s.cells.waits) i));
    alone = λ _ nz. absurd (nz z);
  }

  await_other : (t k : ℕ) → eqb k c ≡ false → CellStep c s (Wait k) (awaiting t k s)
  await_other t k n = still c s (Wait k) (awaiting t k s) (refl, n) refl (all_there _ _ (at-last_there t c k s.cells.waits n))

  rest-none : (xs : List ℕ) → length xs ≤ 1 → rest xs ≡ []
  rest-none [] l = refl
  rest-none (x ∷ []) l = refl
  rest-none (x ∷ y ∷ xs) l = let f : ⊥ = omega arith in absurd f

  take-cell : (t : ℕ) → c < length s.cells.words → eqb (word_of s.cells c) 0 ≡ false → length (waiting_at s c) ≤ 1 → CellStep c s (Wait c) (taking t c s)
  take-cell t l nz a =
      let w : get_or (set s.cells.words c 0) c 0 ≡ 0 = get_or-set_same s.cells.words c 0 0 l in
      record {
        messages = let f : full (taking t c s).state c ≡ 0 = ap (λ (n : ℕ). bit (not (eqb n 0)) 1) w in let g : full s c ≡ 1 = ap (λ (b : Bool). bit (not b) 1) nz in grind (arith, nat_tests);
        whence = λ k i. absurd (false≢true (subst (λ (l : List ℕ). has k l ≡ true) (at-first-here c s.cells.waits ∙ rest-none (waiting_at s c) a) i));
        alone = λ _ z. absurd (z w);
      }

  take-other : (t k : ℕ) → eqb k c ≡ false → CellStep c s (Wait k) (taking t k s)
  take-other t k n = still c s (Wait k) (taking t k s) (refl, n) (word_there k 0 n) (all_there _ _ (at-first_there c k s.cells.waits n))

  cell-step : {x : Step} {d : Done} → length s.cells.words ≡ 256 → Lawful x → (word_of s.cells c ≢ 0 → length (waiting_at s c) ≤ 1) → Shape s x d → CellStep c s x d
  cell-step size ok a (refuses x r) = refused-cell c s x r
  cell-step size ok a (tells-only x n q) = same-cells c s x _ (no_mail c x q) refl
  cell-step size ok a (creates t k ks id level start message e f n) = same-cells c s (Create id level start message) _ (refl, refl) refl
  cell-step size ok a (kills x t q e) = same-cells c s x _ (no_mail c x q) refl
  cell-step size ok a (suspends x t q e) = same-cells c s x _ (no_mail c x q) refl
  cell-step size ok a (levels x t level q e) = same-cells c s x _ (no_mail c x q) refl
  cell-step size ok a (turns x t q e) = same-cells c s x _ (no_mail c x q) refl
  cell-step size ok a (kills-other id t k e n f b) = still c s (ById id _) _ (refl, refl) refl (at_left c k s.cells.waits)
  cell-step size ok a (readies_other id t k e n f) = same-cells c s (ById id _) _ (refl, refl) refl
  cell-step size ok a (suspends-other id t k e n f) = same-cells c s (ById id _) _ (refl, refl) refl
  cell-step size ok a (levels-other id t k level e n f) = same-cells c s (ById id _) _ (refl, refl) refl
  cell-step size ok a (posts t k m stay e z nz nn) = here_or_there k (CellStep c s (Send k m stay) (posting t k m stay s))
      (λ q. subst (λ (j : ℕ). CellStep c s (Send j m stay) (posting t j m stay s)) (sym q) (post_cell t m stay e (omega arith) (subst (λ (j : ℕ). word_of s.cells j ≡ 0) q z) nz (subst (λ (j : ℕ). none (waiting_at s j) ≡ true) q nn)))
      (λ n. post_other t k m stay n)
  cell-step size ok a (delivers t k m stay e z nz nn) = here_or_there k (CellStep c s (Send k m stay) (delivering k m s))
      (λ q. subst (λ (j : ℕ). CellStep c s (Send j m stay) (delivering j m s)) (sym q) (deliver_cell m stay (subst (λ (j : ℕ). word_of s.cells j ≡ 0) q z) (subst (λ (j : ℕ). none (waiting_at s j) ≡ false) q nn)))
      (λ n. deliver_other k m stay n)
  cell-step size ok a (awaits t k e z) = here_or_there k (CellStep c s (Wait k) (awaiting t k s))
      (λ q. subst (λ (j : ℕ). CellStep c s (Wait j) (awaiting t j s)) (sym q) (await_cell t e (subst (λ (j : ℕ). word_of s.cells j ≡ 0) q z))) (λ n. await_other t k n)
  cell-step size ok a (takes t k e nz) = here_or_there k (CellStep c s (Wait k) (taking t k s))
      (λ q. let nz' = subst (λ (j : ℕ). eqb (word_of s.cells j) 0 ≡ false) q nz in subst (λ (j : ℕ). CellStep c s (Wait j) (taking t j s)) (sym q) (take-cell t (omega arith) nz' (a (eqb-false (word_of s.cells c) 0 nz')))) (λ n. take-other t k n)
  cell-step size ok a (delays t n e z) = same-cells c s (Delay n) _ (refl, refl) refl
  cell-step size ok a (ticks z) = same-cells c s Tick _ (refl, refl) refl
  cell-step size ok a (asks t u y k bytes n e l z) = same-cells c s (Transfer u y) _ (refl, refl) refl
  cell-step size ok a (goes_on u r rs l q z) = same-cells c s (Service u) _ (refl, refl) refl
  cell-step size ok a (ends u r rs o l q z) = same-cells c s (Service u) _ (refl, refl) refl

-- Runs ------------------------------------------------------------------------------------------------------------------------

-- one entry more, through which t waited on
began_more : (t c : ℕ) (past : List Entry) (s : State) (x : Step) (d : Done) → Began t c past s → has t (waiting_at s c) ≡ true → word_of d.state.cells c ≡ word_of s.cells c → Began t c (past ++ Entered s x d ∷ []) d.state
began_more t c past s x d b i w = record {
  early = b.early;
  call = b.call;
  since = b.since ++ Entered s x d ∷ [];
  split = ap (λ (l : List Entry). l ++ Entered s x d ∷ []) b.split ∙ append_assoc b.early (b.call ∷ b.since) (Entered s x d ∷ []);
  caller = b.caller;
  granted = b.granted;
  waited = All-push (λ e. has t (waiting_at e.before c) ≡ true) b.since (Entered s x d) b.waited i;
  role = ⊎_elim (λ (r : AsReceiver c b.call.step s). inl (r.0, w ∙ r.1)) (λ (r : AsSender c b.call.step s). inr (r.0, (r.1.0, (w ∙ r.1.1.0, r.1.1.1)))) b.role;
}

record CellRun (c : ℕ) (past : List Entry) (now : State) : Type 0 where
  messages : count_by (sent c) past ≡ count_by (handed c) past + count_by (took_later c) past + full now c
  roles : (t : ℕ) → has t (waiting_at now c) ≡ true → Began t c past now
  alone : word_of now.cells c ≢ 0 → length (waiting_at now c) ≤ 1

cell-more : (c : ℕ) (past : List Entry) (s : State) (x : Step) (d : Done) → CellStep c s x d → CellRun c past s → CellRun c (past ++ Entered s x d ∷ []) d.state
cell-more c past s x d k r = record {
  messages =
      let e = k.messages in let m = r.messages in
      let a = sum_by_push (λ e. cond (sent c e) 1 0) past (Entered s x d) in
      let b = sum_by_push (λ e. cond (handed c e) 1 0) past (Entered s x d) in
      let g = sum_by_push (λ e. cond (took_later c e) 1 0) past (Entered s x d) in omega arith;
  roles = λ t i. ⊎_elim
      (λ (o : (has t (waiting_at s c) ≡ true) × (word_of d.state.cells c ≡ word_of s.cells c)). began_more t c past s x d (r.roles t o.0) o.0 o.1)
      (λ (o : (s.table.running ≡ Some t) × ((is_granted d.answer ≡ true) × (AsReceiver c x d.state ⊎ AsSender c x d.state))).
      record { early = past; call = Entered s x d; since = []; split = refl; caller = o.0; granted = o.1.0; waited = All-nil (λ e. has t (waiting_at e.before c) ≡ true); role = o.1.1 })
      (k.whence t i);
  alone = k.alone r.alone;
}

cell_run : (c : ℕ) (past : List Entry) (s : State) (xs : List Step) → All Lawful xs → Sound s → CellRun c past s → CellRun c (past ++ history s xs) (after s xs)
cell_run c past s [] ok g r = subst (λ (l : List Entry). CellRun c l s) (sym (append-nil past)) r
cell_run c past s (x ∷ xs) ok g r =
    subst (λ (l : List Entry). CellRun c l (after s (x ∷ xs))) (append_assoc past (entry s x ∷ []) (history (apply x s).state xs))
    (cell_run c (past ++ entry s x ∷ []) (apply x s).state xs (All-tail Lawful x xs ok) (sound-step s x (All-head Lawful x xs ok) g)
    (cell-more c past s x (apply x s) (cell-step c s g.cells (All-head Lawful x xs ok) r.alone (shape s x)) r))

pub cells_law : OfEveryRun CellLaws
cells_law start past h ok = subst (λ (s : State). CellLaws s past (after s past)) (sym h.is) (λ c l.
    let s = begin h.tasks h.timed h.units in
    let z : word_of s.cells c ≡ 0 = get_or-replicate 256 c 0 0 l in
    let r = cell_run c [] s past ok (good_begin h.tasks h.timed h.units h.some h.four).sound (record {
      messages = let f : full s c ≡ 0 = ap (λ (n : ℕ). bit (not (eqb n 0)) 1) z in omega arith;
      roles = λ t i. absurd (false≢true i);
      alone = λ n. absurd (n z);
    }) in
    record { messages = r.messages; roles = r.roles; alone = r.alone })

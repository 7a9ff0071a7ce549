-- Clock waits through everything that is done to them.
use Rattle.std.proofs.Common.{◌≡◌, ℕ, ◌+◌, ◌<◌, ◌≤◌, true, List, [], ◌∷◌, ◌++◌, map, Some, None, Option, sym, refl, ap, ◌∙◌, subst, arith}
use Rattle.std.proofs.lemmas.Bool.Decides.{nat_tests}
use Rattle.std.specs.Option.{option_to_list}
use Rattle.chain.specs.Lists.{count, first, join, none_above, rest, sorted}
use Rattle.chain.proofs.Orders.{join-sorted}
use Rattle.line.specs.declared.Waiting.{Waiting}
use Rattle.line.specs.declared.Line.{Line}
use Rattle.line.specs.View as line
use Rattle.line.specs.Waits.{waiting, without_task}
use Rattle.line.proofs.Lines.{join-words, tasks-waits}
use Rattle.rules.specs.State as rules
use Rattle.rules.specs.Clock.{due_at, join_clock, later_than}
use Rattle.rules.specs.Records.{sleepers, without_sleeper}
use Rattle.clock.specs.declared.ClockWait.{ClockWait}
use Rattle.clock.specs.Waits.{as_wait, as_waits, waits_of}
use Rattle.clock.specs.Due.{ReleasedOne, without_first_due}

-- ── the line in the words of the rules ──

sleepers_as : (ws : List (Waiting ClockWait)) → sleepers (as_waits ws) ≡ map (λ w. w.task) ws
unfolding as_waits
sleepers_as [] = refl
sleepers_as (w ∷ ws) = ap (λ l. w.task ∷ l) (sleepers_as ws)

pub sleepers_are : (x : Line ClockWait) → sleepers (waits_of x) ≡ line.tasks x
sleepers_are x = sleepers_as (line.list (record { due = 0 }) x) ∙ tasks-waits (record { due = 0 }) x.links x.head

pub none_wait : (ws : List (Waiting ClockWait)) → ws ≡ [] → as_waits ws ≡ []
unfolding as_waits
none_wait ws is = ap (map as_wait) is

pub wait_joined : (t due : ℕ) (ws vs : List (Waiting ClockWait)) → vs ≡ join (λ w. w.wait.due) (waiting t (record { due = due })) ws → as_waits vs ≡ join_clock t due (as_waits ws)
unfolding as_waits
wait_joined t due ws vs is = ap (map as_wait) is ∙ join-words as_wait (λ w. w.due) (waiting t (record { due = due })) ws

pub wait_left : (t : ℕ) (ws vs : List (Waiting ClockWait)) → vs ≡ without_task t ws → as_waits vs ≡ without_sleeper t (as_waits ws)
unfolding as_waits
wait_left t ws vs is = ap (map as_wait) is ∙ out ws
  where
    out : (ws : List (Waiting ClockWait)) → map as_wait (without_task t ws) ≡ without_sleeper t (map as_wait ws)
    out [] = refl
    out (w ∷ ws) = let r = out ws in grind (arith, nat_tests)

first_as : (ws : List (Waiting ClockWait)) (w : Waiting ClockWait) → Some w ≡ first ws → Some (as_wait w) ≡ first (as_waits ws)
unfolding as_waits
first_as [] w f = let z : ◌≡◌ {A = ℕ} 0 1 = cc in absurd (omega arith)
first_as (v ∷ ws) w f = let same : w ≡ v = cc in ap (λ u. Some (as_wait u)) same

pub rest_as : (ws vs : List (Waiting ClockWait)) → vs ≡ rest ws → as_waits vs ≡ rest (as_waits ws)
unfolding as_waits
rest_as [] vs is = ap (map as_wait) is
rest_as (w ∷ ws) vs is = ap (map as_wait) is

-- the task that is taken off the line is that of the first
pub first-task : (x : Line ClockWait) (w : Waiting ClockWait) (taken : Option ℕ) → ((none : ClockWait) → Some w ≡ first (line.list none x)) → taken ≡ first (line.tasks x) → taken ≡ Some w.task
first-task x w taken f is =
    let ws = line.list (record { due = 0 }) x in
    is ∙ ap first (sym (tasks-waits (record { due = 0 }) x.links x.head)) ∙ task ws (f (record { due = 0 }))
  where
    task : (ws : List (Waiting ClockWait)) → Some w ≡ first ws → first (map (λ v. v.task) ws) ≡ Some w.task
    task [] e = let z : ◌≡◌ {A = ℕ} 0 1 = cc in absurd (omega arith)
    task (v ∷ ws) e = let same : w ≡ v = cc in ap (λ u. Some u.task) (sym same)

-- ── the waits stand by due tick ──

abbrev ByDue : List rules.ClockWait → Type 0
ByDue ws = sorted (λ w. w.due) ws ≡ true

none_above_left : (a : rules.ClockWait) (t : ℕ) (ws : List rules.ClockWait) → none_above (λ w. w.due) a ws ≡ true → none_above (λ w. w.due) a (without_sleeper t ws) ≡ true
none_above_left a t [] n = refl
none_above_left a t (w ∷ ws) n = let r = none_above_left a t ws in grind (arith, nat_tests)

left-sorted : (t : ℕ) (ws : List rules.ClockWait) → ByDue ws → ByDue (without_sleeper t ws)
left-sorted t [] s = refl
left-sorted t (w ∷ ws) s = let r = left-sorted t ws in let n = none_above_left w t ws in grind (arith, nat_tests)

pub joined-by-due : (t due : ℕ) (ws vs : List rules.ClockWait) → vs ≡ join_clock t due ws → ByDue ws → ByDue vs
joined-by-due t due ws vs is s = subst ByDue (sym is) (join-sorted (λ w. w.due) (record { task = t; due = due }) ws s)

pub left-by-due : (t : ℕ) (ws vs : List rules.ClockWait) → vs ≡ without_sleeper t ws → ByDue ws → ByDue vs
left-by-due t ws vs is s = subst ByDue (sym is) (left-sorted t ws s)

pub rest-by-due : (ws vs : List rules.ClockWait) → vs ≡ rest ws → ByDue ws → ByDue vs
rest-by-due ws vs is s = subst ByDue (sym is) (behind ws s)
  where
    behind : (ws : List rules.ClockWait) → ByDue ws → ByDue (rest ws)
    behind [] s = refl
    behind (w ∷ ws) s = grind (arith, nat_tests)

none-due : (reading : ℕ) (a : rules.ClockWait) (ws : List rules.ClockWait) → none_above (λ w. w.due) a ws ≡ true → reading < a.due → due_at reading ws ≡ []
none-due reading a [] n l = refl
none-due reading a (w ∷ ws) n l = let r = none-due reading a ws in grind (arith, nat_tests)

-- ── one wait that is due ends ──

module _ (reading : ℕ) where
  -- it is the first of those that are due, and the others stay
  pub due-rest : (ws : List rules.ClockWait) → due_at reading (without_first_due reading ws) ≡ rest (due_at reading ws)
  due-rest [] = refl
  due-rest (w ∷ ws) = let r = due-rest ws in grind (arith, nat_tests)

  pub later-stay : (ws : List rules.ClockWait) → later_than reading (without_first_due reading ws) ≡ later_than reading ws
  later-stay [] = refl
  later-stay (w ∷ ws) = let r = later-stay ws in grind (arith, nat_tests)

  all-later : (ws : List rules.ClockWait) → first (sleepers (due_at reading ws)) ≡ None → without_first_due reading ws ≡ later_than reading ws
  all-later [] none = refl
  all-later (w ∷ ws) none = let r = all-later ws in grind (arith, nat_tests)

  count-due : (k : ℕ) (ws : List rules.ClockWait) → count k (sleepers ws) ≡ count k (option_to_list (first (sleepers (due_at reading ws)))) + count k (sleepers (without_first_due reading ws))
  count-due k [] = refl
  count-due k (w ∷ ws) = let r = count-due k ws in grind (arith, nat_tests)

  first_and_rest : (ws : List rules.ClockWait) → sleepers ws ≡ option_to_list (first (sleepers ws)) ++ sleepers (rest ws)
  first_and_rest [] = refl
  first_and_rest (w ∷ ws) = refl

  pub released : (taken : Option ℕ) (ws vs : List rules.ClockWait) → taken ≡ first (sleepers (due_at reading ws)) → vs ≡ without_first_due reading ws → ReleasedOne reading taken ws vs
  released taken ws vs f out =
      let due = first_and_rest (due_at reading ws) in
      let rests = due-rest ws in
      let later = later-stay ws in
      record {
        due = cc;
        later = cc;
        done = λ none. (let all = all-later ws (sym f ∙ none) in cc);
        counts = λ k. (let e = count-due k ws in cc);
      }

  -- ── the first of the line is the first that is due ──

  abbrev Popped : Option ℕ → List rules.ClockWait → List rules.ClockWait → Type 0
  Popped taken ws vs = (taken ≡ first (sleepers (due_at reading ws))) × (vs ≡ without_first_due reading ws)

  pub popped_none : (ws : List (Waiting ClockWait)) → None ≡ first ws → Popped None (as_waits ws) (as_waits ws)
  unfolding as_waits
  popped_none [] f = (refl, refl)
  popped_none (w ∷ ws) f = let z : ◌≡◌ {A = ℕ} 0 1 = cc in absurd (omega arith)

  none_out : (ws : List rules.ClockWait) → due_at reading ws ≡ [] → ws ≡ without_first_due reading ws
  none_out [] none = refl
  none_out (w ∷ ws) none = let r = none_out ws in grind (arith, nat_tests)

  later-none : (ws : List rules.ClockWait) (w : rules.ClockWait) → Some w ≡ first ws → reading < w.due → ByDue ws → due_at reading ws ≡ []
  later-none [] w f l s = refl
  later-none (v ∷ ws) w f l s =
      let same : w ≡ v = cc in
      let later : reading < v.due = subst (λ u. reading < u.due) same l in
      let n = none-due reading v ws in grind (arith, nat_tests)

  pub popped_later : (ws : List (Waiting ClockWait)) (w : Waiting ClockWait) → Some w ≡ first ws → reading < w.wait.due → ByDue (as_waits ws) → Popped None (as_waits ws) (as_waits ws)
  popped_later ws w f l s =
      let none = later-none (as_waits ws) (as_wait w) (first_as ws w f) l s in
      (sym (ap (λ vs. first (sleepers vs)) none), none_out (as_waits ws) none)

  due-out : (ws : List rules.ClockWait) (w : rules.ClockWait) → Some w ≡ first ws → w.due ≤ reading → Popped (Some w.task) ws (rest ws)
  due-out [] w f l = let z : ◌≡◌ {A = ℕ} 0 1 = cc in absurd (omega arith)
  due-out (v ∷ ws) w f l =
      let same : w ≡ v = cc in
      let due : v.due ≤ reading = subst (λ u. u.due ≤ reading) same l in
      (ap (λ u. Some u.task) same ∙ grind (arith, nat_tests), grind (arith, nat_tests))

  pub popped_due : (taken : Option ℕ) (ws vs : List (Waiting ClockWait)) (w : Waiting ClockWait) → Some w ≡ first ws → w.wait.due ≤ reading
      → taken ≡ Some w.task → vs ≡ rest ws → Popped taken (as_waits ws) (as_waits vs)
  popped_due taken ws vs w f l is out =
      let p = due-out (as_waits ws) (as_wait w) (first_as ws w f) l in
      (is ∙ p.0, rest_as ws vs out ∙ p.1)

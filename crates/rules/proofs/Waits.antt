-- How often a record waits, through everything that is done to the waits; and who an id finds.
use Rattle.std.proofs.Common.{◌≡◌, ℕ, zero, suc, ◌+◌, ◌<◌, ◌≤◌, Bool, true, false, cond, not, ◌&&◌, eqb, ltb, leb, List, [], ◌∷◌, ◌++◌, length, get_or, set, Some, None, refl, ap, ◌∙◌, subst, arith}
use Rattle.std.specs.Option.{option_to_list}
use Rattle.std.proofs.lemmas.Bool.{cond_both, eqb-true, eq-eqb}
use Rattle.chain.specs.Lists.{count, first, has, one, without}
use Rattle.rules.specs.State.{CellWait, ClockWait, Request, Table, Task, blank, record_in}
use Rattle.rules.specs.Tables.{id_from, lookup}
use Rattle.rules.specs.Records.{all_askers, askers, sleepers, waiters, without_sleeper, without_waiter}
use Rattle.rules.specs.Mail.{elsewhere, tasks_at, without_first_at}
use Rattle.rules.specs.Clock.{due_at, join_clock, later_than}
use Rattle.rules.specs.Transfers.{enqueue}
use Rattle.rules.proofs.Counts.{count-++}

-- The clock -------------------------------------------------------------------------------------------------------------------
pub sleepers-without : (t : ℕ) (ws : List ClockWait) → sleepers (without_sleeper t ws) ≡ without t (sleepers ws)
sleepers-without t [] = refl
sleepers-without t (w ∷ ws) = cond_both (eqb w.task t) ws (w ∷ without_sleeper t ws) (λ l. sleepers l ≡ cond (eqb w.task t) (sleepers ws) (w.task ∷ without t (sleepers ws)))
    (λ e. let ih = sleepers-without t ws in grind arith) (λ e. let ih = sleepers-without t ws in grind arith)

pub waiters-without : (t : ℕ) (ws : List CellWait) → waiters (without_waiter t ws) ≡ without t (waiters ws)
waiters-without t [] = refl
waiters-without t (w ∷ ws) = cond_both (eqb w.task t) ws (w ∷ without_waiter t ws) (λ l. waiters l ≡ cond (eqb w.task t) (waiters ws) (w.task ∷ without t (waiters ws)))
    (λ e. let ih = waiters-without t ws in grind arith) (λ e. let ih = waiters-without t ws in grind arith)

module _ (k : ℕ) where
  pub count_sleep : (t due : ℕ) (ws : List ClockWait) → count k (sleepers (join_clock t due ws)) ≡ one k t + count k (sleepers ws)
  count_sleep t due [] = refl
  count_sleep t due (w ∷ ws) = let ih = count_sleep t due ws in
      cond_both (ltb due w.due) ((record { task = t; due = due }) ∷ w ∷ ws) (w ∷ join_clock t due ws) (λ l. count k (sleepers l) ≡ one k t + (one k w.task + count k (sleepers ws))) (λ _. refl) (λ _. omega arith)

  pub count-due : (now : ℕ) (ws : List ClockWait) → count k (sleepers (due_at now ws)) + count k (sleepers (later_than now ws)) ≡ count k (sleepers ws)
  count-due now [] = refl
  count-due now (w ∷ ws) = let ih = count-due now ws in go (leb w.due now) ih
    where
      go : (b : Bool) → count k (sleepers (due_at now ws)) + count k (sleepers (later_than now ws)) ≡ count k (sleepers ws)
          → count k (sleepers (cond b (w ∷ due_at now ws) (due_at now ws))) + count k (sleepers (cond b (later_than now ws) (w ∷ later_than now ws))) ≡ one k w.task + count k (sleepers ws)
      go true ih = omega arith
      go false ih = omega arith

  -- Cells ---------------------------------------------------------------------------------------------------------------------
  pub count-last : (t c : ℕ) (ws : List CellWait) → count k (waiters (ws ++ (record { task = t; cell = c }) ∷ [])) ≡ one k t + count k (waiters ws)
  count-last t c [] = refl
  count-last t c (w ∷ ws) = let ih = count-last t c ws in omega arith

  pub count_at : (c : ℕ) (ws : List CellWait) → count k (tasks_at c ws) + count k (waiters (elsewhere c ws)) ≡ count k (waiters ws)
  count_at c [] = refl
  count_at c (w ∷ ws) = let ih = count_at c ws in go (eqb w.cell c) ih
    where
      go : (b : Bool) → count k (tasks_at c ws) + count k (waiters (elsewhere c ws)) ≡ count k (waiters ws)
          → count k (cond b (w.task ∷ tasks_at c ws) (tasks_at c ws)) + count k (waiters (cond b (elsewhere c ws) (w ∷ elsewhere c ws))) ≡ one k w.task + count k (waiters ws)
      go true ih = omega arith
      go false ih = omega arith

  pub count-longest : (c : ℕ) (ws : List CellWait) → count k (option_to_list (first (tasks_at c ws))) + count k (waiters (without_first_at c ws)) ≡ count k (waiters ws)
  count-longest c [] = refl
  count-longest c (w ∷ ws) = let ih = count-longest c ws in go (eqb w.cell c) ih
    where
      go : (b : Bool) → count k (option_to_list (first (tasks_at c ws))) + count k (waiters (without_first_at c ws)) ≡ count k (waiters ws)
          → count k (option_to_list (first (cond b (w.task ∷ tasks_at c ws) (tasks_at c ws)))) + count k (waiters (cond b ws (w ∷ without_first_at c ws))) ≡ one k w.task + count k (waiters ws)
      go true ih = omega arith
      go false ih = omega arith

  -- Units ---------------------------------------------------------------------------------------------------------------------
  pub count-enqueue : (r : Request) (q : List Request) → count k (askers (enqueue r q)) ≡ one k r.task + count k (askers q)
  count-enqueue r [] = refl
  count-enqueue r (x ∷ xs) = let ih = count-enqueue r xs in omega arith

  pub count_queue : (qs : List (List Request)) (u : ℕ) (q : List Request) → u < length qs → count k (all_askers (set qs u q)) + count k (askers (get_or qs u [])) ≡ count k (all_askers qs) + count k (askers q)
  count_queue [] u q l = let f : ⊥ = omega arith in absurd f
  count_queue (p ∷ qs) zero q l = omega (arith, count-++ k (askers q) (all_askers qs), count-++ k (askers p) (all_askers qs))
  count_queue (p ∷ qs) (suc u) q l =
      let ih = count_queue qs u q (omega arith) in omega (arith, count-++ k (askers p) (all_askers (set qs u q)), count-++ k (askers p) (all_askers qs))

  -- who waits at one unit waits at some unit
  pub count-one_queue : (qs : List (List Request)) (u : ℕ) → u < length qs → count k (askers (get_or qs u [])) ≤ count k (all_askers qs)
  count-one_queue qs u l = let e = count_queue qs u [] l in omega arith

-- Ids -------------------------------------------------------------------------------------------------------------------------

-- whom an id finds: a live task that has it
pub record Found (id k : ℕ) (a : Table) : Type 0 where
  pub live : has k a.free ≡ false
  pub inside : k < length a.tasks
  pub named : (record_in a k).id ≡ id
  pub nonzero : eqb id 0 ≡ false

found_from : (free : List ℕ) (id n : ℕ) (xs : List Task) (k : ℕ) → id_from n id free xs ≡ Some k → (has k free ≡ false) × ((n ≤ k) × (k < n + length xs))
found_from free id n [] k e = let z : ◌≡◌ {A = ℕ} 0 1 = cc in let f : ⊥ = omega arith in absurd f
found_from free id n (x ∷ xs) k e = cond_both (eqb x.id id && not (has n free)) (Some n) (id_from (n + 1) id free xs) (λ o. o ≡ Some k → (has k free ≡ false) × ((n ≤ k) × (k < n + suc (length xs))))
    (λ b q. let m : n ≡ k = cc in let f : has n free ≡ false = grind arith in (subst (λ (j : ℕ). has j free ≡ false) m f, (omega arith, omega arith)))
    (λ b q. let r = found_from free id (n + 1) xs k q in let r1 = r.1.0 in let r2 = r.1.1 in (r.0, (omega arith, omega arith))) e

named_from : (free : List ℕ) (id n : ℕ) (xs : List Task) (j : ℕ) → id_from n id free xs ≡ Some (n + j) → (get_or xs j blank).id ≡ id
named_from free id n [] j e = let z : ◌≡◌ {A = ℕ} 0 1 = cc in let f : ⊥ = omega arith in absurd f
named_from free id n (x ∷ xs) zero e = cond_both (eqb x.id id && not (has n free)) (Some n) (id_from (n + 1) id free xs) (λ o. o ≡ Some (n + 0) → x.id ≡ id)
    (λ b q. eqb-true x.id id (grind arith)) (λ b q. let r = (found_from free id (n + 1) xs (n + 0) q).1.0 in let f : ⊥ = omega arith in absurd f) e
named_from free id n (x ∷ xs) (suc j) e = cond_both (eqb x.id id && not (has n free)) (Some n) (id_from (n + 1) id free xs) (λ o. o ≡ Some (n + suc j) → (get_or xs j blank).id ≡ id)
    (λ b q. let m : n ≡ n + suc j = cc in let f : ⊥ = omega arith in absurd f) (λ b q. named_from free id (n + 1) xs j (q ∙ ap Some (omega arith))) e

pub found : (id k : ℕ) (a : Table) → lookup id a ≡ Some k → Found id k a
found id k a e = cond_both (eqb id 0) None (id_from 0 id a.free a.tasks) (λ o. o ≡ Some k → Found id k a)
    (λ b q. let z : ◌≡◌ {A = ℕ} 0 1 = cc in let f : ⊥ = omega arith in absurd f)
    (λ b q. let r = found_from a.free id 0 a.tasks k q in let l = r.1.1 in record { live = r.0; inside = omega arith; named = named_from a.free id 0 a.tasks k (q ∙ ap Some (omega arith)); nonzero = b }) e

-- an id that finds nobody: no live task has it, unless it is 0
absent_from : (free : List ℕ) (id n : ℕ) (xs : List Task) (j : ℕ) → id_from n id free xs ≡ None → j < length xs → has (n + j) free ≡ false → (get_or xs j blank).id ≡ id → ⊥
absent_from free id n [] j e l h q = omega arith
absent_from free id n (x ∷ xs) zero e l h q = cond_both (eqb x.id id && not (has n free)) (Some n) (id_from (n + 1) id free xs) (λ o. o ≡ None → ⊥)
    (λ b w. let z : ◌≡◌ {A = ℕ} 0 1 = cc in omega arith)
    (λ b w. let h' : has n free ≡ false = subst (λ (i : ℕ). has i free ≡ false) (omega arith) h in let t = eq-eqb x.id id q in let z : ◌≡◌ {A = ℕ} 0 1 = grind arith in omega arith) e
absent_from free id n (x ∷ xs) (suc j) e l h q = cond_both (eqb x.id id && not (has n free)) (Some n) (id_from (n + 1) id free xs) (λ o. o ≡ None → ⊥)
    (λ b w. let z : ◌≡◌ {A = ℕ} 0 1 = cc in omega arith)
    (λ b w. absent_from free id (n + 1) xs j w (omega arith) (subst (λ (i : ℕ). has i free ≡ false) (omega arith) h) q) e

pub absent : (id k : ℕ) (a : Table) → lookup id a ≡ None → eqb id 0 ≡ false → k < length a.tasks → has k a.free ≡ false → (record_in a k).id ≡ id → ⊥
absent id k a e nz l h q = cond_both (eqb id 0) None (id_from 0 id a.free a.tasks) (λ o. o ≡ None → ⊥)
    (λ b w. let z : ◌≡◌ {A = ℕ} 0 1 = grind arith in omega arith)
    (λ b w. absent_from a.free id 0 a.tasks k w l (subst (λ (i : ℕ). has i a.free ≡ false) (omega arith) h) q) e

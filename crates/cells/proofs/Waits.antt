-- A line of cell waits, in the words of the rules, through everything that is done to it.
use Rattle.std.proofs.Common.{◌≡◌, ℕ, ◌+◌, not, List, [], ◌∷◌, ◌++◌, map, is_some, None, Option, sym, refl, ap, ◌∙◌, arith}
use Rattle.std.proofs.lemmas.Bool.Decides.{nat_tests}
use Rattle.std.specs.Option.{option_to_list}
use Rattle.chain.specs.Lists.{count, first, join, rest}
use Rattle.line.specs.declared.Waiting.{Waiting}
use Rattle.line.specs.View as line
use Rattle.line.specs.Waits.{tasks_with, without_first_with, without_task}
use Rattle.line.proofs.Lines.{tasks-waits}
use Rattle.rules.specs.State as rules
use Rattle.rules.specs.Mail.{elsewhere, none, tasks_at, without_first_at}
use Rattle.rules.specs.Records.{waiters, without_waiter}
use Rattle.cells.specs.declared.CellWait.{CellWait}
use Rattle.cells.specs.declared.Cells.{Cells}
use Rattle.cells.specs.View.{as_wait, as_waits, cells, lined}
use Rattle.cells.specs.Ended.{EndedOne}

waiters_as : (ws : List (Waiting CellWait)) → waiters (as_waits ws) ≡ map (λ w. w.task) ws
unfolding as_waits
waiters_as [] = refl
waiters_as (w ∷ ws) = ap (λ l. w.task ∷ l) (waiters_as ws)

pub waiters_are : (x : Cells) → waiters (cells x).waits ≡ line.tasks x.line
waiters_are x = waiters_as (lined x) ∙ tasks-waits (record { cell = 0 }) x.line.links x.line.head

abbrev cell_of : CellWait → ℕ
cell_of w = w.cell

pub tasks-at : (c : ℕ) (ws : List (Waiting CellWait)) → tasks_with cell_of c ws ≡ tasks_at c (as_waits ws)
unfolding as_waits
tasks-at c [] = refl
tasks-at c (w ∷ ws) = let r = tasks-at c ws in grind (arith, nat_tests)

module _ (ws vs : List (Waiting CellWait)) where
  pub waits-none : ws ≡ [] → as_waits ws ≡ []
  unfolding as_waits
  waits-none is = ap (map as_wait) is

  pub waits-joined : (w : Waiting CellWait) → vs ≡ join (λ _. 0) w ws → as_waits vs ≡ as_waits ws ++ as_wait w ∷ []
  unfolding as_waits
  waits-joined w is = ap (map as_wait) is ∙ last ws
    where
      last : (ws : List (Waiting CellWait)) → map as_wait (join (λ _. 0) w ws) ≡ map as_wait ws ++ as_wait w ∷ []
      last [] = refl
      last (v ∷ ws) = ap (λ l. as_wait v ∷ l) (last ws)

  pub waits-left : (t : ℕ) → vs ≡ without_task t ws → as_waits vs ≡ without_waiter t (as_waits ws)
  unfolding as_waits
  waits-left t is = ap (map as_wait) is ∙ out ws
    where
      out : (ws : List (Waiting CellWait)) → map as_wait (without_task t ws) ≡ without_waiter t (map as_wait ws)
      out [] = refl
      out (w ∷ ws) = let r = out ws in grind (arith, nat_tests)

  pub waits-taken : (c : ℕ) → vs ≡ without_first_with cell_of c ws → as_waits vs ≡ without_first_at c (as_waits ws)
  unfolding as_waits
  waits-taken c is = ap (map as_wait) is ∙ out ws
    where
      out : (ws : List (Waiting CellWait)) → map as_wait (without_first_with cell_of c ws) ≡ without_first_at c (map as_wait ws)
      out [] = refl
      out (w ∷ ws) = let r = out ws in grind (arith, nat_tests)

pub awaited : (ts : List ℕ) (o : Option ℕ) → o ≡ first ts → is_some o ≡ not (none ts)
awaited [] o is = ap is_some is
awaited (t ∷ ts) o is = ap is_some is

-- ── one wait at a cell ends ──

module _ (c : ℕ) where
  -- it is the first of those there, and the others stay
  pub at_rest : (ws : List rules.CellWait) → tasks_at c (without_first_at c ws) ≡ rest (tasks_at c ws)
  at_rest [] = refl
  at_rest (w ∷ ws) = let r = at_rest ws in grind (arith, nat_tests)

  pub others-stay : (ws : List rules.CellWait) → elsewhere c (without_first_at c ws) ≡ elsewhere c ws
  others-stay [] = refl
  others-stay (w ∷ ws) = let r = others-stay ws in grind (arith, nat_tests)

  all-elsewhere : (ws : List rules.CellWait) → first (tasks_at c ws) ≡ None → without_first_at c ws ≡ elsewhere c ws
  all-elsewhere [] f = refl
  all-elsewhere (w ∷ ws) f = let r = all-elsewhere ws in grind (arith, nat_tests)

  count_at : (k : ℕ) (ws : List rules.CellWait) → count k (waiters ws) ≡ count k (option_to_list (first (tasks_at c ws))) + count k (waiters (without_first_at c ws))
  count_at k [] = refl
  count_at k (w ∷ ws) = let r = count_at k ws in grind (arith, nat_tests)

  first_and_rest : (ts : List ℕ) → ts ≡ option_to_list (first ts) ++ rest ts
  first_and_rest [] = refl
  first_and_rest (t ∷ ts) = refl

  pub ended : (taken : Option ℕ) (ws vs : List rules.CellWait) → taken ≡ first (tasks_at c ws) → vs ≡ without_first_at c ws → EndedOne c taken ws vs
  ended taken ws vs f out =
      let here = first_and_rest (tasks_at c ws) in
      let rests = at_rest ws in
      let others = others-stay ws in
      record {
        here = cc;
        others = cc;
        done = λ none. (let all = all-elsewhere ws (sym f ∙ none) in cc);
        counts = λ k. (let e = count_at k ws in cc);
      }

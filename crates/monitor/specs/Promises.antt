-- What the calls of a monitor promise.
use Rattle.std.specs.Prelude.{◌≡◌, ℕ, List, [], ◌∷◌, ◌++◌, map, All, Result}
use Rattle.std.specs.Borrow.{Bor}
use Rattle.calls.specs.Calls.{call_with}
use Rattle.calls.specs.declared.call.Call.{Call}
use Rattle.calls.specs.declared.refusal.Refusal.{Refusal}
use Rattle.rules.specs.State.{State}
use Rattle.rules.specs.Rules.{Step, apply}
use Rattle.rules.specs.Runs.{after, answers}
use Rattle.rules.specs.Laws.{Lawful, Laws, Played, Started}

-- a step is made as the rules have it: the state after it, with its units, and the answer
pub record Made (x : Step) (before after : State) (told : Result ℕ Refusal) : Type 0 where
  pub state : after ≡ (apply x before).state
  pub answer : told ≡ (apply x before).answer

-- whatever run has come to the state before the step, all laws hold of that run with the step added
abbrev pub GoesOn : Step → State → State → Type 0
GoesOn x before now = (start : State) (past : List Step) → Started start → All Lawful past → before ≡ after start past → Laws start (past ++ x ∷ []) now

-- the steps that some calls of the code are
abbrev pub steps_of : List (Call (Bor (List ℕ))) → List Step
steps_of calls = map (call_with (λ t. t.now)) calls

-- a run from a start: the state that it comes to, the answers, and all laws of the whole run and of each front of it
pub record Performed (start : State) (steps : List Step) (last : State) (told : List (Result ℕ Refusal)) : Type 0 where
  pub state : last ≡ after start steps
  pub answers : told ≡ answers start steps
  pub laws : Played start [] steps last

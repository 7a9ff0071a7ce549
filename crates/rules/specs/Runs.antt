-- Runs of the rules: the states and answers of a list of calls, ticks and services.
use Rattle.std.specs.Prelude.{ℕ, List, [], ◌∷◌, Option, Result}
use Rattle.std.specs.List.{flat_map}
use Rattle.calls.specs.declared.refusal.Refusal.{Refusal}
use Rattle.rules.specs.State.{State}
use Rattle.rules.specs.Acts.{Deed, Done}
use Rattle.rules.specs.Rules.{Step, apply}

-- one step of a run: the state that it met, and what it did
pub record Entry : Type 0 where
  pub before : State
  pub step : Step
  pub did : Done

abbrev pub entry : State → Step → Entry
entry s x = record { before = s; step = x; did = apply x s }

-- the state after a run
abbrev pub after : State → List Step → State
after s [] = s
after s (x ∷ xs) = after (apply x s).state xs

-- all steps of a run, the first first
abbrev pub history : State → List Step → List Entry
history s [] = []
history s (x ∷ xs) = entry s x ∷ history (apply x s).state xs

-- the answers of a run
abbrev pub answers : State → List Step → List (Result ℕ Refusal)
answers s [] = []
answers s (x ∷ xs) = (apply x s).answer ∷ answers (apply x s).state xs

-- the task that runs after each step
abbrev pub runners : State → List Step → List (Option ℕ)
runners s [] = []
runners s (x ∷ xs) = (apply x s).state.table.running ∷ runners (apply x s).state xs

-- all that happened to the ready chain
abbrev pub deeds_of : List Entry → List Deed
deeds_of es = flat_map (λ e. e.did.deeds) es

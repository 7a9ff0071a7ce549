-- The words that the rules give as answers to some steps.
use Rattle.std.specs.Prelude.{ℕ, List, [], ◌∷◌, ◌++◌, length}
use Rattle.std.specs.List.{flat_map}
use Rattle.calls.specs.declared.call.Call.TheVariants.{Look}
use Rattle.calls.specs.declared.call.LookedAt.TheVariants.{Outcome}
use Rattle.rules.specs.State.{State}
use Rattle.rules.specs.Rules.{Step, apply, outcome_text}
use Rattle.words.specs.Answers.{answer_words}
use Rattle.words.specs.Format.{call_words}
use Rattle.words.specs.declared.parts.Answer.{Answer}

-- the words of some calls, one behind the other
abbrev pub words_of : List Step → List ℕ
words_of calls = flat_map call_words calls

-- the bytes that stand behind the answer to a step: behind the outcome of a read those that it has moved
abbrev pub text_behind : Step → State → List ℕ
text_behind (Look Outcome) s = outcome_text s
text_behind x s = []

-- the answer to a step: the task that runs after it, what it is answered, and the text behind that
abbrev pub answer_to : Step → State → Answer (List ℕ)
answer_to x s = record { running = (apply x s).state.table.running; reply = (apply x s).answer; text = text_behind x s }

-- how many bytes the words of that answer take
abbrev pub size_of : Step → State → ℕ
size_of x s = length (answer_words (answer_to x s))

-- the words of the answers to some steps, from a state on
abbrev pub answers_from : State → List Step → List ℕ
answers_from s [] = []
answers_from s (x ∷ xs) = answer_words (answer_to x s) ++ answers_from (apply x s).state xs

-- A run over call words: the calls that it makes, what it leaves, and why it stops.
use Rattle.std.specs.Prelude.{◌≡◌, ℕ, ◌-◌, ◌/◌, ◌<◌, ◌≤◌, ◌≢◌, List, [], ◌∷◌, ◌++◌, length, drop, All}
use Rattle.calls.specs.declared.stop.Stop.{Stop}
use Rattle.calls.specs.declared.stop.Stop.TheVariants.{End, Unlawful, NoRoom}
use Rattle.rules.specs.State.{State}
use Rattle.rules.specs.Rules.{Step, apply}
use Rattle.rules.specs.Runs.{after}
use Rattle.rules.specs.Laws.{Lawful, Played, Started}
use Rattle.words.specs.Answers.{answer_words}
use Rattle.words.specs.Format.{call_words}
use Rattle.words.specs.Reading.{Writable}
use Rattle.host.specs.Answered.{answer_to, answers_from, size_of, words_of}
use Rattle.host.specs.declared.Report.{Report}

-- One call ----------------------------------------------------------------------------------------------------------------------

-- The call at the front of some words is made, and its answer written to the front of a slice.
pub record MakesOne (words rest : List ℕ) (before now : State) (out left : List ℕ) (size : ℕ) : Type 0 where
  pub call : Step
  pub front : words ≡ call_words call ++ rest
  pub writable : Writable call
  pub lawful : Lawful call
  pub state : now ≡ (apply call before).state
  pub takes : size ≡ size_of call before
  pub room : size ≤ length out
  pub answer : left ≡ answer_words (answer_to call before) ++ drop size out

-- Why a run stops in a state where these words are left, `place` words stand before them, and there is room for so many bytes:
-- no words are left; or no call's words stand at their front; or the answer to the call there needs more bytes.
abbrev pub StopsFor : Stop → ℕ → List ℕ → State → ℕ → Type 0
StopsFor End place rest s room = rest ≡ []
StopsFor (Unlawful at) place rest s room = (at ≡ place) × (rest ≢ []) × ((x : Step) (more : List ℕ) → rest ≢ call_words x ++ more)
StopsFor NoRoom place rest s room = (x : Step) × (more : List ℕ) × (rest ≡ call_words x ++ more) × (room < size_of x s)

-- A run -------------------------------------------------------------------------------------------------------------------------

-- Calls that stand at the front of some words are made, one after the other, and their answers written to the front of a slice:
-- the state is that which the rules give after them, the answers are those of the rules, and what lies past them is as it was.
pub record Makes (words rest : List ℕ) (before now : State) (out left : List ℕ) (count written : ℕ) : Type 0 where
  pub calls : List Step
  pub front : words ≡ words_of calls ++ rest
  pub writable : All Writable calls
  pub lawful : All Lawful calls
  pub number : count ≡ length calls
  pub state : now ≡ after before calls
  pub takes : written ≡ length (answers_from before calls)
  pub room : written ≤ length out
  pub answers : left ≡ answers_from before calls ++ drop written out

-- All calls are made up to where the run stops. Whatever run has come to the state before, all laws hold of that run with these
-- calls added, and of each front of it.
pub record Ran (words : List ℕ) (before now : State) (out left : List ℕ) (report : Report) : Type 0 where
  pub rest : List ℕ
  pub makes : Makes words rest before now out left report.calls report.written
  pub stop : StopsFor report.stop ((length words - length rest) / 4) rest now (length out - report.written)
  pub laws : (start : State) (past : List Step) → Started start → All Lawful past → before ≡ after start past → Played start past makes.calls now

-- a run is all that its words, its state and its room allow: two that begin alike end alike
abbrev pub OneRun : Type 0
OneRun = (words out left left' : List ℕ) (before now now' : State) (r r' : Report) → Ran words before now out left r → Ran words before now' out left' r' → (now ≡ now') × (left ≡ left') × (r ≡ r')

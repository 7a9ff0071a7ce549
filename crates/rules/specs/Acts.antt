-- Calls under way: what is done to the table, and what that did to the ready chain, so that a run can be reckoned up.
-- The state and the answer of a call do not depend on what is told of the ready chain.
use Rattle.std.specs.Prelude.{ℕ, false, cond, List, [], ◌∷◌, ◌++◌, Some, None, Ok, Err, Option, Result}
use Rattle.calls.specs.declared.refusal.Refusal.{Refusal}
use Rattle.chain.specs.Lists.{has}
use Rattle.rules.specs.State.{State, Table, level_in, on_table, record_in, with_level, with_mark, with_word}
use Rattle.rules.specs.Tables as table

-- what can happen to the ready chain: a task is linked at its level, which gives the chain; one is chosen; a task is taken out of the chain
pub data Deed : Type 0 where
  linked : (task level : ℕ) (chain : List ℕ) → Deed
  chose : Deed
  took_out : (task : ℕ) (chain : List ℕ) → Deed

-- something done to the table, with what it did to the ready chain
pub record Act : Type 0 where
  pub does : Table → Table
  pub tells : Table → List Deed

-- a call done: the state after it, its answer, and what it did to the ready chain
pub record Done : Type 0 where
  pub state : State
  pub answer : Result ℕ Refusal
  pub deeds : List Deed

-- Acts ------------------------------------------------------------------------------------------------------------------------

-- a change that leaves the ready chain alone
abbrev pub plain : (Table → Table) → Act
plain f = record { does = f; tells = λ _. [] }

infixl 20 ◌then◌
-- one act and then another
abbrev pub ◌then◌ : Act → Act → Act
a then b = record { does = λ x. b.does (a.does x); tells = λ x. a.tells x ++ b.tells (a.does x) }

abbrev pub linking : ℕ → Act
linking t = record { does = table.link t; tells = λ a. linked t (level_in a t) (table.link t a).ready ∷ [] }

abbrev pub choosing : Act
choosing = record { does = table.choose; tells = λ _. chose ∷ [] }

abbrev pub taking_out : ℕ → Act
taking_out t = record { does = table.take_out t; tells = λ a. cond (has t a.ready) (took_out t a.ready ∷ []) [] }

abbrev pub releasing : ℕ → Act
releasing t = record { does = table.release t; tells = λ a. cond (record_in a t).mark [] ((linking t).tells a) }

abbrev pub releases_tell : List ℕ → Table → List Deed
releases_tell [] a = []
releases_tell (t ∷ ts) a = (releasing t).tells a ++ releases_tell ts (table.release t a)

abbrev pub releasing_all : List ℕ → Act
releasing_all ts = record { does = table.release_all ts; tells = releases_tell ts }

abbrev pub handing : ℕ → ℕ → Act
handing m t = record { does = table.hand m t; tells = λ a. (releasing t).tells (table.change t (with_word m) a) }

abbrev pub hands_tell : ℕ → List ℕ → Table → List Deed
hands_tell m [] a = []
hands_tell m (t ∷ ts) a = (handing m t).tells a ++ hands_tell m ts (table.hand m t a)

abbrev pub handing_all : ℕ → List ℕ → Act
handing_all m ts = record { does = table.hand_all m ts; tells = hands_tell m ts }

abbrev pub back_tells : Option ℕ → Table → List Deed
back_tells None a = []
back_tells (Some t) a = (linking t).tells (table.stop a)

abbrev pub turning : Act
turning = record { does = table.turn; tells = λ a. back_tells a.running a ++ chose ∷ [] }

-- the same of a task other than the caller
abbrev pub killing_other : ℕ → Act
killing_other k = record { does = table.kill_other k; tells = (taking_out k).tells }

abbrev pub suspending_other : ℕ → Act
suspending_other k = record { does = table.suspend_other k; tells = (taking_out k).tells }

abbrev pub readying_other : ℕ → Act
readying_other k = record { does = table.ready_other k; tells = λ a. cond (has k a.suspended) ((linking k).tells (table.change k (with_mark false) (table.unsuspend k a))) [] }

abbrev pub levelling_other : ℕ → ℕ → Act
levelling_other k l = record { does = table.level_other k l; tells = λ a. cond (has k a.ready) ((taking_out k).tells a ++ (linking k).tells (table.change k (with_level l) (table.take_out k a))) [] }

-- Answers ---------------------------------------------------------------------------------------------------------------------

-- an answer after an act; the parts of the state besides the table are as they are handed in
abbrev pub answered : Result ℕ Refusal → Act → State → Done
answered r a s = record { state = on_table a.does s; answer = r; deeds = a.tells s.table }

-- granted with no turn
abbrev pub grant : ℕ → Act → State → Done
grant n a s = answered (Ok n) a s

-- granted, and a turn ends it
abbrev pub done : ℕ → Act → State → Done
done n a s = grant n (a then turning) s

-- granted, with nothing changed
abbrev pub tell : ℕ → State → Done
tell n s = record { state = s; answer = Ok n; deeds = [] }

-- refused, with nothing changed
abbrev pub refuse : Refusal → State → Done
refuse r s = record { state = s; answer = Err r; deeds = [] }

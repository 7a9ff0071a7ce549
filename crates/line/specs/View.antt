-- What a line means.
use Rattle.std.specs.Prelude.{ℕ, List, length}
use Rattle.chain.specs.Chains.{chain, nexts}
use Rattle.line.specs.declared.Waiting.{Waiting}
use Rattle.line.specs.declared.Line.{Line}
use Rattle.line.specs.Waits.{waits}

-- the tasks on it, in order
abbrev pub tasks : {R : Type 0} → Line R → List ℕ
tasks x = chain (nexts x.links) x.head

-- the same with their waits
abbrev pub list : {R : Type 0} → R → Line R → List (Waiting R)
list none x = waits none x.links x.head

-- how many tasks there may be: task t is one of them if t is less
abbrev pub room : {R : Type 0} → Line R → ℕ
room x = length (nexts x.links)

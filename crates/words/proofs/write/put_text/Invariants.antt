use Rattle.std.proofs.Common.{◌≡◌, ◌+◌, ◌≤◌, length}
use Rattle.words.specs.Format.{text_words}
use Rattle.words.specs.Writing.{laid}
use Rattle.words.proofs.write.put_text.Given as goal

-- what is left to lay makes up what was to be laid, and there is room for it
abbrev pub invariant-loop-rest : goal.invariant-loop-rest
invariant-loop-rest l = (laid l.at (text_words l.rest) l.out ≡ laid l.initial.at (text_words l.initial.rest) l.initial.out) × (l.at + length (text_words l.rest) ≤ length l.out)

abbrev pub decreases-loop-rest : goal.decreases-loop-rest
decreases-loop-rest l = length l.rest

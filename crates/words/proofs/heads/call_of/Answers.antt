-- The likely call is the only one whose first word the word can be.
use Rattle.std.proofs.Common.{refl, rules}
use Rattle.words.proofs.FirstWords.{decided}
use Rattle.words.proofs.heads.call_of.Goals as goal

pub returns : goal.returns
returns c =
    rw c.then_some.ensures
    (decided c.args.word c.first_word.result c.in_ok-call.call (search rules) c.first_word.ensures c.first_word.type_inv (search rules) (search rules) _ refl)

-- A word laid at the front of the rest leaves the words of what is then left.
use Rattle.std.proofs.Common.{rules}
use Rattle.words.proofs.Laid.{laid_word}
use Rattle.words.proofs.write.put_text.Goals as goal

pub loop-rest-preserved : goal.loop-rest-preserved
loop-rest-preserved c =
    laid_word c.loop-rest.at c.word.result c.loop-rest.rest.now c.loop-rest.out c.put_word.new.out _ (search rules) c.word.ensures c.put_word.ensures c.loop-rest.invariant.0 c.loop-rest.invariant.1

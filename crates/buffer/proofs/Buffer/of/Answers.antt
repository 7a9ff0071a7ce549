-- The text, and zeros behind it.
use Rattle.buffer.proofs.Texts.{laid}
use Rattle.buffer.proofs.Buffer.of.Goals as goal

pub invariant_of-result : goal.invariant_of-result
invariant_of-result g c = rw c.copy_from_slice.ensures.after (laid g.row.N c.args.text.now c.requires)

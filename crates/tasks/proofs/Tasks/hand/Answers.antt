-- A task that gets a word is as nowhere as it was.
use Rattle.std.proofs.Common.{ap, ◌∙◌}
use Rattle.rules.specs.State.{with_word}
use Rattle.rules.specs.Tables.{hand, release}
use Rattle.tasks.proofs.Placing.{changed_unplaced}
use Rattle.tasks.proofs.Tasks.hand.Goals as goal

pub release-requires : goal.release-requires
release-requires c = rw c.give_word.ensures (changed_unplaced (with_word c.args.message) c.requires)

pub returns : goal.returns
unfolding hand
returns c = c.release.ensures ∙ ap (release c.args.t) c.give_word.ensures

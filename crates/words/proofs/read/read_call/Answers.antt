-- Where the data words of a call are missing, no call is there.
use Rattle.std.proofs.Common.{◌≡◌, Err, refl, rules}
use Rattle.calls.specs.declared.refusal.Refusal.TheVariants.{Unlawful}
use Rattle.words.proofs.CallWords.{no_call}
use Rattle.words.proofs.read.read_call.Goals as goal

pub returns-in_err-found-clause-reads : goal.returns-in_err-found-clause-reads
returns-in_err-found-clause-reads c =
    let is : c.from_residual-in_err-found.result ≡ Err Unlawful = search rules in
    rw is (refl, search rules, no_call c.args.bytes.now c.in_ok-word.rest.now c.in_ok-word.word c.in_ok-head.head (search rules) (search rules) (search rules) (search rules))

-- A word of another kind is no reply.
use Rattle.std.proofs.Common.{◌≡◌, Some, Option, ⊎_elim, rules}
use Rattle.words.specs.Heads.{kind_of}
use Rattle.words.specs.declared.kind.Kind.{Kind}
use Rattle.words.specs.declared.kind.Kind.TheVariants as kind
use Rattle.words.proofs.AnswerWords.{reply_kind}
use Rattle.words.proofs.answer.reply_of.Goals as goal

same_kind : (o p : Option Kind) (k l : Kind) → o ≡ Some k → o ≡ p → p ≡ Some l → k ≡ l
same_kind o p k l a b c = cc

pub returns-in_default : goal.returns-in_default
returns-in_default c running reply n e =
    let same = λ (k : Kind). same_kind c.kind.result (kind_of c.args.word) c.in_ok-kind.field-0 k (search rules) c.kind.ensures in
    ⊎_elim (λ k. c.in_default.not-Granted (same kind.Granted k)) (λ k. c.in_default.not-Refused (same kind.Refused k)) (reply_kind running reply c.args.word e)

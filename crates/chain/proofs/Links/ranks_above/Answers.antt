-- Two records compare as their ranks do.
use Rattle.std.proofs.Common.{nat_le, ap, ◌∙◌}
use Rattle.chain.specs.Lists.{rank_in}
use Rattle.chain.specs.Chains.{records}
use Rattle.chain.proofs.Tables.{rank_is, not_behind}
use Rattle.chain.proofs.Links.ranks_above.Goals as goal

pub returns : goal.returns
returns g c =
    let rank = g.R.Ranked.rank in
    let t = c.args.self.now in
    let a = c.record_at.result.now in
    let b = c.record_at-2.result.now in
    let first = rank_is t c.args.i c.requires.0 rank a c.record_at.ensures in
    let second = rank_is t c.args.k c.requires.1 rank b c.record_at-2.ensures in
    not_behind _ _ c.goes_behind.result
    (c.goes_behind.ensures ∙ g.met.R.Ranked.ranks b a ∙ ap (λ n. nat_le n (rank a)) second ∙ ap (nat_le (rank_in rank (records t) c.args.k)) first)

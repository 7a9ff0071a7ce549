-- The chain is its first number and the chain from the next one.
use Rattle.std.proofs.Common.{sym, ap, ◌∙◌}
use Rattle.chain.specs.Lists.{first, rest}
use Rattle.chain.specs.Chains.{nexts}
use Rattle.chain.proofs.Orders.{chosen_by}
use Rattle.chain.proofs.Leads.{at-end, chain-cons, chain-once, first-within, next_ends}
use Rattle.chain.proofs.Links.take_first.Goals as goal

pub returns-in_err-i-clause-first : goal.returns-in_err-i-clause-first
returns-in_err-i-clause-first g c = c.from_residual.ensures ∙ sym (ap first (at-end (nexts c.args.self.now) c.args.head.now c.in_err-i.was))

pub returns-in_err-i-clause-rest : goal.returns-in_err-i-clause-rest
returns-in_err-i-clause-rest g c = let e = at-end (nexts c.args.self.now) c.args.head.now c.in_err-i.was in e ∙ sym (ap rest e)

pub next_of-requires : goal.next_of-requires
next_of-requires g c = first-within (nexts c.args.self.now) c.args.head.now c.in_ok-i.i c.in_ok-i.was c.requires

pub returns : goal.returns
returns g c =
    let ns = nexts c.args.self.now in
    let s = chain-cons ns c.args.head.now c.in_ok-i.i c.in_ok-i.was c.requires c.next_of.result c.next_of.ensures in
    let f = sym (ap first s) in
    let r = sym (ap rest s) in
    record {
      ends = next_ends ns c.args.head.now c.in_ok-i.i c.in_ok-i.was c.requires c.next_of.result c.next_of.ensures;
      first = f;
      rest = r;
      laws = chosen_by _ _ _ (chain-once ns c.args.head.now c.requires) f r;
    }

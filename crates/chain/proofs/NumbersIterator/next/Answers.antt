-- The first number left is the one the walk is at, and behind it are those from where its link leads.
use Rattle.std.proofs.Common.{rules}
use Rattle.chain.specs.Chains.{nexts}
use Rattle.chain.proofs.Leads.{at-end, chain-cons, first-within, next_ends, next_less}
use Rattle.chain.proofs.NumbersIterator.next.Goals as goal

pub returns-in_err-k-clause-steps : goal.returns-in_err-k-clause-steps
returns-in_err-k-clause-steps g c = let w = c.args.self.now in let e = at-end (nexts w.links.now) w.at c.in_err-k.was in search (rules, e)

pub next_of-self-requires : goal.next_of-self-requires
next_of-self-requires g c = let w = c.args.self.now in first-within (nexts w.links.now) w.at c.in_ok-k.k c.in_ok-k.was w.ends

pub invariant_of-self : goal.invariant_of-self
invariant_of-self g c = let w = c.args.self.now in record { ends = next_ends (nexts w.links.now) w.at c.in_ok-k.k c.in_ok-k.was w.ends c.next_of-self.result c.next_of-self.ensures }

pub returns-clause-steps : goal.returns-clause-steps
returns-clause-steps g c = let w = c.args.self.now in chain-cons (nexts w.links.now) w.at c.in_ok-k.k c.in_ok-k.was w.ends c.next_of-self.result c.next_of-self.ensures

pub returns-clause-goes : goal.returns-clause-goes
returns-clause-goes g c = let w = c.args.self.now in let l = next_less (nexts w.links.now) w.at c.in_ok-k.k c.in_ok-k.was w.ends c.next_of-self.result c.next_of-self.ensures in search (rules, l)

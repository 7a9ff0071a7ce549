-- The first keeps its place, and its record is written.
use Rattle.std.proofs.Common.{sym, ap, ◌∙◌}
use Rattle.chain.specs.Chains.{nexts}
use Rattle.chain.proofs.Leads.{first-within}
use Rattle.line.specs.Waits.{on_first}
use Rattle.line.proofs.Lines.{waits_end, waits_replace}
use Rattle.line.proofs.Line.replace_first.Goals as goal

pub replace-requires : goal.replace-requires
replace-requires g c = let s = c.args.self.now in first-within (nexts s.links) s.head c.in-Some.t c.in-Some.is s.ends

pub returns-in-Some-clause-list : goal.returns-in-Some-clause-list
returns-in-Some-clause-list g c none =
    let s = c.args.self.now in
    let p = c.replace in
    let within = first-within (nexts s.links) s.head c.in-Some.t c.in-Some.is s.ends in
    waits_replace none s.links s.head p.new.self c.in-Some.t c.args.wait within p.ensures.next p.ensures.records c.in-Some.is s.ends

pub returns-in_default-clause-list : goal.returns-in_default-clause-list
returns-in_default-clause-list g c none =
    let s = c.args.self.now in let e = waits_end none s.links s.head c.in_default.is in e ∙ sym (ap (on_first c.args.wait) e)

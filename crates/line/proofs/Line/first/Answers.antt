-- The first of the chain with its record.
use Rattle.std.proofs.Common.{sym, ap, ◌∙◌}
use Rattle.chain.specs.Lists.{first}
use Rattle.chain.specs.Chains.{nexts}
use Rattle.chain.proofs.Leads.{first-within}
use Rattle.line.proofs.Lines.{waits_end, waits-first}
use Rattle.line.proofs.Line.first.Goals as goal

pub record_at-requires : goal.record_at-requires
record_at-requires g c = let s = c.args.self.now in first-within (nexts s.links) s.head c.in_ok-task.task c.in_ok-task.was s.ends

pub returns-in_err-task : goal.returns-in_err-task
returns-in_err-task g c none = let s = c.args.self.now in c.from_residual.ensures ∙ sym (ap first (waits_end none s.links s.head c.in_err-task.was))

pub returns : goal.returns
returns g c none = let s = c.args.self.now in waits-first none s.links s.head c.in_ok-task.task c.in_ok-task.was s.ends c.record_at.result.now c.record_at.ensures

-- The first with the key is taken out as any task is.
use Rattle.std.proofs.Common.{◌∙◌}
use Rattle.line.specs.View.{list}
use Rattle.line.proofs.Lines.{out_none, waits-out}
use Rattle.line.proofs.Line.take_first_with.Goals as goal

pub returns-in_err-t-clause-list : goal.returns-in_err-t-clause-list
returns-in_err-t-clause-list g c none = out_none none g.R.Keyed.key c.args.key (list none c.args.self.now) (c.in_err-t.ensures none)

pub returns-clause-list : goal.returns-clause-list
returns-clause-list g c none =
    let s = c.args.self.now in c.leave.ensures.list none ∙ waits-out none s.links s.head g.R.Keyed.key c.args.key c.in_ok-t.t (c.in_ok-t.ensures none)

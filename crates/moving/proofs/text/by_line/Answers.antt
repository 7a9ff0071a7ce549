-- The line stands up to the first line end.
use Rattle.std.proofs.Common.{Some, ap, ◌∙◌}
use Rattle.moving.proofs.Lines.{found, none}
use Rattle.moving.proofs.text.by_line.Goals as goal

pub returns-in_err-end : goal.returns-in_err-end
returns-in_err-end c = c.from_residual.ensures ∙ none c.args.text.now c.in_err-end.ensures.first

pub returns : goal.returns
returns c = ap Some c.of.ensures ∙ found c.args.text.now c.in_ok-end.end c.in_ok-end.ensures.first

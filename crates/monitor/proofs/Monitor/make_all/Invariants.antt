-- The steps so far are made, and there is room for the answers to the others.
use Rattle.std.proofs.Common.{◌≡◌, ◌+◌, take, vec_items, vec_len, vec_capacity}
use Rattle.monitor.specs.Promises.{steps_of}
use Rattle.monitor.proofs.Played.{MadeSo}
use Rattle.monitor.proofs.Monitor.make_all.Given as goal

abbrev pub invariant-loop-step : goal.invariant-loop-step
invariant-loop-step g l = record {
  made : MadeSo (vec_items l.initial.answers) l.initial.self (steps_of (take l.step-index l.steps)) l.self (vec_items l.answers);
  len : vec_len l.answers ≡ vec_len l.initial.answers + l.step-index;
  capacity : vec_capacity l.answers ≡ vec_capacity l.initial.answers;
}

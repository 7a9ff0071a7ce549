use Rattle.rules.proofs.Samples.{all_receivers_wake, behind-equals, freed-id-is-gone, ready-ends-no_wait, released-before-caller}
use Rattle.rules.proofs.wrong_readings.Goals as goal

pub returns : goal.returns
returns c = record {
  before_equals = behind-equals;
  freed_id = freed-id-is-gone;
  one_receiver = all_receivers_wake;
  caller_first = released-before-caller;
  ready_ends_wait = ready-ends-no_wait;
}

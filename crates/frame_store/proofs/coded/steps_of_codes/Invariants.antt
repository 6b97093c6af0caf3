-- Each code so far has the step of its symbol by its probability in the table.
use Rattle.std.proofs.Common.{◌≡◌, ℕ, ◌-◌, ◌%◌, ◌<◌, nat_lt, min, length, get_or}
use Rattle.arith_encoder.specs.Lanes.{IsStep}
use Rattle.frame_store.proofs.coded.steps_of_codes.Given as goal

abbrev pub invariant-loop-code : goal.invariant-loop-code
invariant-loop-code l = record {
  long : length l.steps ≡ 128;
  each : (code : ℕ) → code < l.code → IsStep (nat_lt code 64) (get_or l.probs (min (code % 64) (length l.probs - 1)) 0) (get_or l.steps code 0);
}

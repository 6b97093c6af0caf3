-- The pulls so far are known, and none is above 2 ^ 59 in size.
use Rattle.std.proofs.Common.{◌≡◌, ℕ, ◌^◌, ◌<◌, ◌≤◌, pos, nat_abs, length, get_or}
use Rattle.level_spec.specs.Refining.{pull}
use Rattle.filter_refiner.proofs.steps.pulls.Given as goal

abbrev pub invariant-loop-lag : goal.invariant-loop-lag
invariant-loop-lag l = record {
  long : length l.pulls ≡ 128;
  known : (k : ℕ) → k < l.lag → get_or l.pulls k (pos 0)
      ≡ pull l.fn.r0 l.fn.sums.agreement l.fn.sums.power (get_or l.gradient k (pos 0)) (get_or l.filter k (pos 0));
  most : (k : ℕ) → nat_abs (get_or l.pulls k (pos 0)) ≤ 2 ^ 59;
}

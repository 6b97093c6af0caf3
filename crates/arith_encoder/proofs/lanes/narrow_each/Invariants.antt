-- The lanes so far have taken their symbol, and those behind are as they were.
use Rattle.std.proofs.Common.{◌≡◌, ℕ, ◌<◌, ◌≤◌, Bool, length, get_or}
use Rattle.arith_core.specs.Range.{IsRange}
use Rattle.arith_encoder.specs.Lanes.{IsStep, TakesStep}
use Rattle.arith_encoder.proofs.lanes.narrow_each.Given as goal

abbrev pub invariant-loop-lane : goal.invariant-loop-lane
invariant-loop-lane l = record {
  ranges_long : length l.ranges ≡ 8;
  doublings_long : length l.doublings ≡ 8;
  taken : (lane : ℕ) (symbol : Bool) (p : ℕ) → lane < l.lane → IsStep symbol p (get_or l.step lane 0) → IsRange (get_or l.initial.ranges lane 0)
      → TakesStep (get_or l.initial.ranges lane 0) (get_or l.initial.doublings lane 0) symbol p (get_or l.ranges lane 0) (get_or l.doublings lane 0);
  left_ranges : (lane : ℕ) → l.lane ≤ lane → get_or l.ranges lane 0 ≡ get_or l.initial.ranges lane 0;
  left_doublings : (lane : ℕ) → l.lane ≤ lane → get_or l.doublings lane 0 ≡ get_or l.initial.doublings lane 0;
}

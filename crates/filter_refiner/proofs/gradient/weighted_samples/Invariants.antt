-- The lanes so far have their weighted samples, and none is above 255 in size.
use Rattle.std.proofs.Common.{◌≡◌, ℕ, ◌+◌, ◌*◌, ◌<◌, ◌≤◌, pos, nat_abs, length, get_or}
use Rattle.filter_refiner.specs.Cells.{weighted}
use Rattle.filter_refiner.proofs.gradient.weighted_samples.Given as goal

abbrev pub invariant-loop-lane : goal.invariant-loop-lane
invariant-loop-lane l = record {
  long : length l.samples ≡ 8;
  done : (k : ℕ) → k < l.lane → get_or l.samples k (pos 0) ≡ weighted l.bytes l.codes l.weights l.first (8 * l.place + k);
  small : (k : ℕ) → nat_abs (get_or l.samples k (pos 0)) ≤ 255;
}

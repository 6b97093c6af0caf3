-- The lanes so far have their samples added, and those to come are as at first.
use Rattle.std.proofs.Common.{◌≡◌, ℕ, ◌<◌, ◌≤◌, pos, ◌+ℤ◌, length, get_or}
use Rattle.filter_refiner.proofs.gradient.add_lanes.Given as goal

abbrev pub invariant-loop-lane : goal.invariant-loop-lane
invariant-loop-lane l = record {
  long : length l.cell ≡ 8;
  done : (k : ℕ) → k < l.lane → get_or l.cell k (pos 0) ≡ get_or l.initial.cell k (pos 0) +ℤ get_or l.samples k (pos 0);
  rest : (k : ℕ) → l.lane ≤ k → get_or l.cell k (pos 0) ≡ get_or l.initial.cell k (pos 0);
}

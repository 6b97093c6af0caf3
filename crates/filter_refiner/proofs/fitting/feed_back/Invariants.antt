-- The values in front have taken their shares of the error, and those behind are as at first.
use Rattle.std.proofs.Common.{◌≡◌, ℕ, ◌-◌, ◌<◌, ◌≤◌, pos, ◌-ℤ◌, ◌*ℤ◌, length, get_or}
use Rattle.level_spec.specs.Recursion.{value, whole}
use Rattle.filter_refiner.proofs.fitting.feed_back.Given as goal

abbrev pub invariant-loop-j : goal.invariant-loop-j
invariant-loop-j l = record {
  long : length l.values ≡ 128;
  before : (k : ℕ) → k < l.j → get_or l.values k (pos 0) ≡ get_or l.initial.values k (pos 0) -ℤ whole (l.error *ℤ value l.row (length l.row - k));
  behind : (k : ℕ) → l.j ≤ k → get_or l.values k (pos 0) ≡ get_or l.initial.values k (pos 0);
}

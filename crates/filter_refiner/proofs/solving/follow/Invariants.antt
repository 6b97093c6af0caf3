-- The values in front have followed, and those behind are as at first.
use Rattle.std.proofs.Common.{◌≡◌, ℕ, ◌-◌, ◌<◌, ◌≤◌, pos, ◌-ℤ◌, ◌*ℤ◌, length, get_or}
use Rattle.level_spec.specs.Recursion.{value, whole}
use Rattle.filter_refiner.proofs.solving.follow.Given as goal

abbrev pub invariant-loop-j : goal.invariant-loop-j
invariant-loop-j l = record {
  long : length l.grown ≡ 128;
  before : (k : ℕ) → k < l.j → get_or l.grown k (pos 0)
      ≡ get_or l.initial.grown k (pos 0) -ℤ whole (l.growth *ℤ value l.values (length l.values - k));
  behind : (k : ℕ) → l.j ≤ k → get_or l.grown k (pos 0) ≡ get_or l.initial.grown k (pos 0);
}

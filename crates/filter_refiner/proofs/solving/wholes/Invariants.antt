-- The numbers so far are without their fraction bits.
use Rattle.std.proofs.Common.{◌≡◌, ℕ, ◌<◌, pos, length, get_or}
use Rattle.level_spec.specs.Recursion.{whole}
use Rattle.filter_refiner.proofs.solving.wholes.Given as goal

abbrev pub invariant-loop-j : goal.invariant-loop-j
invariant-loop-j l = record {
  long : length l.wholes ≡ 128;
  known : (k : ℕ) → k < l.j → get_or l.wholes k (pos 0) ≡ whole (get_or l.numbers k (pos 0));
}

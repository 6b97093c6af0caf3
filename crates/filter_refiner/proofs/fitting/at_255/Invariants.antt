-- The values so far are parts of the greatest, and none is above 255 in size, with 24 fraction bits.
use Rattle.std.proofs.Common.{◌≡◌, ℕ, ◌*◌, ◌^◌, ◌<◌, ◌≤◌, pos, ◌*ℤ◌, nat_abs, length, get_or}
use Rattle.std.specs.Int.{int_div_euclid}
use Rattle.filter_refiner.proofs.fitting.at_255.Given as goal

abbrev pub invariant-loop-j : goal.invariant-loop-j
invariant-loop-j l = record {
  long : length l.values ≡ 128;
  known : (k : ℕ) → k < l.j → get_or l.values k (pos 0) ≡ int_div_euclid (get_or l.target k (pos 0) *ℤ pos (255 * 2 ^ 24)) (pos l.most);
  small : (k : ℕ) → nat_abs (get_or l.values k (pos 0)) ≤ 255 * 2 ^ 24;
}

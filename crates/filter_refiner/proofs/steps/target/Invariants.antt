-- The coefficients so far are moved, and none is above 2 ^ 56 in size.
use Rattle.std.proofs.Common.{◌≡◌, ℕ, ◌^◌, ◌<◌, ◌≤◌, pos, ◌+ℤ◌, ◌*ℤ◌, nat_abs, length, get_or}
use Rattle.filter_refiner.proofs.steps.target.Given as goal

abbrev pub invariant-loop-place : goal.invariant-loop-place
invariant-loop-place l = record {
  long : length l.target ≡ 128;
  known : (k : ℕ) → k < l.place → get_or l.target k (pos 0) ≡ get_or l.filter k (pos 0) *ℤ pos (2 ^ 24) +ℤ get_or l.moves k (pos 0);
  most : (k : ℕ) → nat_abs (get_or l.target k (pos 0)) ≤ 2 ^ 56;
}

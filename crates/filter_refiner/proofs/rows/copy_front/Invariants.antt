-- The places so far hold the values.
use Rattle.std.proofs.Common.{◌≡◌, ℕ, ◌<◌, pos, length, get_or}
use Rattle.filter_refiner.proofs.rows.copy_front.Given as goal

abbrev pub invariant-loop-place : goal.invariant-loop-place
invariant-loop-place l = record {
  long : length l.to ≡ 128;
  copied : (k : ℕ) → k < l.place → get_or l.to k (pos 0) ≡ get_or l.values k (pos 0);
}

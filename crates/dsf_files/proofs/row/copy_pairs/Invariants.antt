-- The pairs in front are those of the row.
use Rattle.std.proofs.Common.{◌≡◌, ℕ, ◌+◌, ◌*◌, ◌/◌, ◌%◌, ◌<◌, length, get_or}
use Rattle.dsf_files.proofs.row.copy_pairs.Given as goal

abbrev pub invariant-loop-pair : goal.invariant-loop-pair
invariant-loop-pair l = record {
  long : length l.out ≡ length l.initial.out;
  sound : (k : ℕ) → k < 2 * l.pair → get_or l.out k 0 ≡ get_or l.row (4096 * (k % 2) + (l.octet + k / 2)) 0;
}

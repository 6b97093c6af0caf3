-- As many bytes as the loop has passed, each its place by 251.
use Rattle.std.proofs.Common.{◌≡◌, ◌%◌, ◌<◌, ℕ, Some, length, slice_get}
use Rattle.example_files.proofs.counting.Given as goal

abbrev pub invariant-loop-i : goal.invariant-loop-i
invariant-loop-i l = record {
  long : length l.sound.items ≡ l.i;
  counts : (k : ℕ) → k < l.i → slice_get l.sound.items k ≡ Some (k % 251);
}

-- The samples so far have their codes, by what goes upward to each prediction.
use Rattle.std.proofs.Common.{◌≡◌, ℕ, ◌-◌, ◌*◌, ◌/◌, ◌%◌, ◌^◌, ◌<◌, ◌==◌, pos, ◌-ℤ◌, length, get_or}
use Rattle.frame_predictions.specs.Codes.{code_of}
use Rattle.frame_predictions.proofs.fill.write_byte.Given as goal

abbrev pub invariant-loop-place : goal.invariant-loop-place
invariant-loop-place l =
    (length l.codes ≡ 8)
    × ((k : ℕ) → k < l.place → get_or l.codes k 0 ≡ code_of (pos (2 * get_or l.upward k 0) -ℤ pos l.size) (l.samples / 2 ^ (7 - k) % 2 == 1))

-- The rows of the bytes so far are right in each lane; each coefficient doubles their number.
use Rattle.std.proofs.Common.{◌≡◌, ℕ, ◌+◌, ◌<◌, ◌^◌, [], length, get_or, drop}
use Rattle.byte_predictor.specs.Samples.{rising_bits}
use Rattle.byte_predictor.specs.Upward.{upward_sum}
use Rattle.byte_predictor.proofs.rows.fill_rows.Given as goal

abbrev pub invariant-loop-i : goal.invariant-loop-i
invariant-loop-i g l =
    (l.half ≡ 2 ^ l.i)
    × ((b lane : ℕ) → b < l.half → lane < g.row.L → get_or (get_or l.rows b []) lane 0 ≡ upward_sum (drop lane l.later) (rising_bits 8 b))
    × (length l.rows ≡ 256)

abbrev pub invariant-loop-byte : goal.invariant-loop-byte
invariant-loop-byte g l =
    ((b lane : ℕ) → b < l.half + l.byte → lane < g.row.L → get_or (get_or l.rows b []) lane 0 ≡ upward_sum (drop lane l.later) (rising_bits 8 b))
    × (length l.rows ≡ 256)

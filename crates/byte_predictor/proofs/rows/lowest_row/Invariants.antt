-- The lanes so far have what eight samples 0 add.
use Rattle.std.proofs.Common.{◌≡◌, ℕ, ◌<◌, length, get_or, drop}
use Rattle.byte_predictor.specs.Samples.{rising_bits}
use Rattle.byte_predictor.specs.Upward.{upward_sum}
use Rattle.byte_predictor.proofs.rows.lowest_row.Given as goal

abbrev pub invariant-loop-lane : goal.invariant-loop-lane
invariant-loop-lane g l =
    ((k : ℕ) → k < l.lane → get_or l.row k 0 ≡ upward_sum (drop k l.later) (rising_bits 8 0))
    × (length l.row ≡ g.row.N)

-- The lanes have the sums after as many bytes as there were turns.
use Rattle.std.proofs.Common.{◌≡◌, ℕ, ◌<◌, length, get_or, drop, replicate}
use Rattle.byte_predictor.specs.Samples.{samples_of}
use Rattle.byte_predictor.specs.Upward.{upward_sum, far}
use Rattle.byte_predictor.proofs.ahead.lanes_before.Given as goal

abbrev pub invariant-loop-turn : goal.invariant-loop-turn
invariant-loop-turn l =
    (length l.lanes ≡ 136)
    × ((lane : ℕ) → lane < 136 → get_or l.lanes lane 0 ≡ upward_sum (drop lane (far l.rows)) (samples_of (replicate l.turn 170)))

-- The lanes so far are copied.
use Rattle.std.proofs.Common.{◌≡◌, ℕ, ◌<◌, length, get_or}
use Rattle.byte_predictor.proofs.known.first_lanes.Given as goal

abbrev pub invariant-loop-place : goal.invariant-loop-place
invariant-loop-place l =
    ((k : ℕ) → k < l.place → get_or l.first k 0 ≡ get_or l.lanes k 0)
    × (length l.first ≡ 8)

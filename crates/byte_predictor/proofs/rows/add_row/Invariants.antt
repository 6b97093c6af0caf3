-- The lanes so far have moved on by eight samples, with the row added; those behind are as they were.
use Rattle.std.proofs.Common.{◌≡◌, ℕ, ◌+◌, ◌%◌, ◌<◌, ◌≤◌, length, get_or}
use Rattle.byte_predictor.proofs.rows.add_row.Given as goal

abbrev pub invariant-loop-lane : goal.invariant-loop-lane
invariant-loop-lane g l =
    (length l.lanes ≡ g.row.M)
    × ((k : ℕ) → k < l.lane → get_or l.lanes k 0 ≡ (get_or l.initial.lanes (k + 8) 0 + get_or l.row k 0) % 65536)
    × ((k : ℕ) → l.lane ≤ k → get_or l.lanes k 0 ≡ get_or l.initial.lanes k 0)

-- The first loop has made the sums so far; the second has written them, and the lanes behind are as they were.
use Rattle.std.proofs.Common.{◌≡◌, ℕ, ◌+◌, ◌%◌, ◌<◌, ◌≤◌, length, get_or}
use Rattle.byte_predictor.proofs.rows.add_front.Given as goal

abbrev pub invariant-loop-lane : goal.invariant-loop-lane
invariant-loop-lane l =
    (length l.front ≡ 16)
    × ((k : ℕ) → k < l.lane → get_or l.front k 0 ≡ (get_or l.lanes (k + 8) 0 + get_or l.row k 0) % 65536)

abbrev pub invariant-loop-lane-2 : goal.invariant-loop-lane-2
invariant-loop-lane-2 l =
    (length l.lanes ≡ 136)
    × ((k : ℕ) → k < l.lane → get_or l.lanes k 0 ≡ (get_or l.initial.lanes (k + 8) 0 + get_or l.row k 0) % 65536)
    × ((k : ℕ) → l.lane ≤ k → get_or l.lanes k 0 ≡ get_or l.initial.lanes k 0)

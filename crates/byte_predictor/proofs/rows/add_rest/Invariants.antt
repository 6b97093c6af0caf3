-- Behind the first sixteen, the lanes so far have the row added; those first ones and the lanes behind are as they were.
use Rattle.std.proofs.Common.{◌≡◌, ℕ, ◌+◌, ◌%◌, ◌<◌, ◌≤◌, length, get_or}
use Rattle.byte_predictor.proofs.rows.add_rest.Given as goal

abbrev pub invariant-loop-lane : goal.invariant-loop-lane
invariant-loop-lane l =
    (length l.lanes ≡ 136)
    × ((k : ℕ) → k < 16 → get_or l.lanes k 0 ≡ get_or l.initial.lanes k 0)
    × ((k : ℕ) → 16 ≤ k → k < l.lane → get_or l.lanes k 0 ≡ (get_or l.initial.lanes (k + 8) 0 + get_or l.row k 0) % 65536)
    × ((k : ℕ) → l.lane ≤ k → get_or l.lanes k 0 ≡ get_or l.initial.lanes k 0)

-- The lanes so far have the sum of the lower row with their coefficient added.
use Rattle.std.proofs.Common.{◌≡◌, ℕ, ◌+◌, ◌<◌, pos, ◌+ℤ◌, length, get_or}
use Rattle.byte_predictor.proofs.rows.raise_row.Given as goal

abbrev pub invariant-loop-lane : goal.invariant-loop-lane
invariant-loop-lane g l =
    ((k : ℕ) → k < l.lane → pos (get_or l.high k 0) ≡ pos (get_or l.low k 0) +ℤ get_or l.later (k + l.i) (pos 0))
    × (length l.high ≡ g.row.N)

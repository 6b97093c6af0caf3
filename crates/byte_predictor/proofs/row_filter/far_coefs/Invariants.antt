-- The coefficients from the ninth on, as far as the loop has passed them, stand at their places, and all else is 0.
use Rattle.std.proofs.Common.{◌≡◌, ℕ, ◌<◌, ◌≤◌, pos, length, get_or}
use Rattle.byte_predictor.proofs.row_filter.far_coefs.Given as goal

abbrev pub invariant-loop-j : goal.invariant-loop-j
invariant-loop-j l =
    (length l.later ≡ 136)
    × ((k : ℕ) → k < 8 → get_or l.later k (pos 0) ≡ pos 0)
    × ((k : ℕ) → 8 ≤ k → k < l.j → get_or l.later k (pos 0) ≡ get_or l.coefs k (pos 0))
    × ((k : ℕ) → l.j ≤ k → get_or l.later k (pos 0) ≡ pos 0)
    × (8 ≤ l.j)

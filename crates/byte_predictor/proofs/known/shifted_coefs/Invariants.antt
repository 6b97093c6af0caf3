-- Eight zeros stand in front, behind them the coefficients so far, and the rest is 0.
use Rattle.std.proofs.Common.{◌≡◌, ℕ, ◌+◌, ◌<◌, ◌≤◌, pos, length, get_or}
use Rattle.byte_predictor.proofs.known.shifted_coefs.Given as goal

abbrev pub invariant-loop-j : goal.invariant-loop-j
invariant-loop-j l =
    (length l.later ≡ 144)
    × ((k : ℕ) → k < 8 → get_or l.later k (pos 0) ≡ pos 0)
    × ((k : ℕ) → k < l.j → get_or l.later (k + 8) (pos 0) ≡ get_or l.coefs k (pos 0))
    × ((k : ℕ) → l.j + 8 ≤ k → get_or l.later k (pos 0) ≡ pos 0)

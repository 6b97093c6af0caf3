-- The values so far are copied, and all behind them are 0.
use Rattle.std.proofs.Common.{◌≡◌, ℕ, ◌<◌, ◌≤◌, pos, length, get_or}
use Rattle.filter_analyser.proofs.recursion.Run.padded.Given as goal

abbrev pub invariant-loop-place : goal.invariant-loop-place
invariant-loop-place l =
    (length l.all ≡ 128)
    × ((k : ℕ) → k < l.place → get_or l.all k (pos 0) ≡ get_or l.self.values k (pos 0))
    × ((k : ℕ) → l.place ≤ k → get_or l.all k (pos 0) ≡ pos 0)

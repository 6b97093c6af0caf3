-- The lags so far have their sums, and those to come are as at first.
use Rattle.std.proofs.Common.{◌≡◌, ℕ, ◌<◌, ◌≤◌, pos, ◌+ℤ◌, length, get_or}
use Rattle.filter_analyser.proofs.picker.add_lags.Given as goal

abbrev pub invariant-loop-lag : goal.invariant-loop-lag
invariant-loop-lag l =
    (length l.joint ≡ 129)
    × ((k : ℕ) → k < l.lag → get_or l.joint k (pos 0) ≡ get_or l.initial.joint k (pos 0) +ℤ get_or l.lags k (pos 0))
    × ((k : ℕ) → l.lag ≤ k → get_or l.joint k (pos 0) ≡ get_or l.initial.joint k (pos 0))

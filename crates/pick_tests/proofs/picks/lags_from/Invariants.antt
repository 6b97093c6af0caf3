-- No correlation is further from 0 than the first one, which is from 1 to 2 ^ 20.
use Rattle.std.proofs.Common.{◌≡◌, ℕ, ◌^◌, ◌≤◌, ◌≤ℤ◌, pos, nat_abs, length, get_or}
use Rattle.pick_tests.proofs.picks.lags_from.Given as goal

abbrev pub invariant-loop-lag : goal.invariant-loop-lag
invariant-loop-lag l = (length l.lags ≡ 129) × ((k : ℕ) → nat_abs (get_or l.lags k (pos 0)) ≤ nat_abs l.first) × (pos 1 ≤ℤ l.first) × (l.first ≤ℤ pos (2 ^ 20))

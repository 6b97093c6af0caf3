-- No value is further from 0 than 2 ^ 40.
use Rattle.std.proofs.Common.{◌≡◌, ℕ, ◌^◌, ◌≤◌, pos, nat_abs, length, get_or}
use Rattle.pick_tests.proofs.picks.solution_from.Given as goal

abbrev pub invariant-loop-place : goal.invariant-loop-place
invariant-loop-place l = (length l.solution ≡ 128) × ((k : ℕ) → nat_abs (get_or l.solution k (pos 0)) ≤ 2 ^ 40)

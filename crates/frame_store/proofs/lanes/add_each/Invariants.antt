-- The lanes so far have their doublings added, and the others are as they were.
use Rattle.std.proofs.Common.{◌≡◌, ℕ, ◌+◌, ◌<◌, ◌≤◌, length, get_or}
use Rattle.frame_store.proofs.lanes.add_each.Given as goal

abbrev pub invariant-loop-lane : goal.invariant-loop-lane
invariant-loop-lane l = record {
  long : length l.totals ≡ 8;
  added : (lane : ℕ) → lane < l.lane → get_or l.totals lane 0 ≡ get_or l.initial.totals lane 0 + get_or l.more lane 0;
  left : (lane : ℕ) → l.lane ≤ lane → get_or l.totals lane 0 ≡ get_or l.initial.totals lane 0;
}

-- None of the lanes so far is short, or one of them is.
use Rattle.std.proofs.Common.{◌≡◌, ℕ, ◌<◌, ◌≤◌, true, false, List}
use Rattle.arith_lanes.specs.Lanes.{IsLane, ahead_at}
use Rattle.arith_lanes.proofs.lanes.ArithLanes.are_short.Given as goal

abbrev pub invariant-loop-n : goal.invariant-loop-n
invariant-loop-n l = record {
  long : l.short ≡ false → (m : ℕ) (bytes : List ℕ) → m < l.n → IsLane l.self m bytes → 16 ≤ ahead_at l.self m;
  short : l.short ≡ true → (m : ℕ) × (m < 8) × ((bytes : List ℕ) → IsLane l.self m bytes → ahead_at l.self m < 16);
}

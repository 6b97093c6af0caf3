-- The lanes so far have enough bits ahead, and those behind are as they were.
use Rattle.std.proofs.Common.{ℕ, ◌<◌, ◌≤◌}
use Rattle.arith_lanes.specs.Lanes.{IsUnchanged}
use Rattle.dst_frames.specs.Batch.{HasEnough, code_at}
use Rattle.dst_frames.proofs.octets.refill_all.Given as goal

abbrev pub invariant-loop-n : goal.invariant-loop-n
invariant-loop-n l = record {
  done : (m : ℕ) → m < l.n → HasEnough l.initial.lanes l.lanes m (code_at l.frames m);
  left : (m : ℕ) → l.n ≤ m → IsUnchanged l.initial.lanes l.lanes m;
}

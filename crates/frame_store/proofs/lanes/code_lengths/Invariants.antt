-- Each lane has measured its candidate's symbols up to the samples of the loop, and no total is too great.
use Rattle.std.proofs.Common.{◌≡◌, ℕ, ◌+◌, ◌-◌, ◌*◌, ◌<◌, ◌≤◌, false, [], length, get_or}
use Rattle.dst_spec.specs.Header.{Params}
use Rattle.dst_spec.specs.Symbols.{reserved_probability, symbols_before}
use Rattle.arith_encoder.specs.Lanes.{IsStep}
use Rattle.frame_store.specs.Coded.{AreCoded}
use Rattle.frame_store.specs.Measured.{IsMeasured}
use Rattle.frame_store.proofs.lanes.code_lengths.Given as goal

abbrev pub invariant-loop-from : goal.invariant-loop-from
invariant-loop-from l = record {
  inside : l.from ≤ l.samples;
  room : length l.steps ≡ length l.fn.steps;
  few : (lane : ℕ) → get_or l.totals lane 0 ≤ 65536 * (l.from + 2);
  measured : (lane : ℕ) (P : Params) → lane < length l.lanes → IsStep false (reserved_probability P) (get_or l.reserved lane 0)
      → AreCoded P l.predictions.rows (get_or l.lanes lane []) l.predictions.channels.channels
      → IsMeasured (symbols_before l.predictions.channels P l.predictions.sound false l.from) (get_or l.ranges lane 0) (get_or l.totals lane 0);
}

abbrev pub decreases-loop-from : goal.decreases-loop-from
decreases-loop-from l = l.samples - l.from

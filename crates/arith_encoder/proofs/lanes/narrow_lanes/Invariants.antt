-- Each lane has the range and the doublings behind the symbols so far.
use Rattle.std.proofs.Common.{ℕ, ◌<◌, Bool, List, get_or, take}
use Rattle.arith_core.specs.Range.{IsRange}
use Rattle.arith_encoder.specs.Lanes.{AreSteps, Leaves}
use Rattle.arith_encoder.proofs.lanes.narrow_lanes.Given as goal

abbrev pub invariant-loop-step : goal.invariant-loop-step
invariant-loop-step l = (lane : ℕ) (pairs : List (Bool × ℕ)) → lane < 8 → AreSteps lane l.steps pairs → IsRange (get_or l.fn.ranges lane 0)
    → Leaves (get_or l.fn.ranges lane 0) (take l.step-index pairs) (get_or l.now lane 0) (get_or l.doublings lane 0)

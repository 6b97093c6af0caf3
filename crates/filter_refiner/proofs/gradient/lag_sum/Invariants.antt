-- The sum is over the lanes so far, and at most 2 ^ 33 for each.
use Rattle.std.proofs.Common.{◌≡◌, ◌+◌, ◌-◌, ◌*◌, ◌/◌, ◌%◌, ◌^◌, ◌≤◌, nat_abs}
use Rattle.level_spec.specs.Correlation.{sum_over}
use Rattle.filter_refiner.specs.Cells.{agreeing, place_before, bytes_before}
use Rattle.filter_refiner.proofs.gradient.lag_sum.Given as goal

abbrev pub invariant-loop-lane : goal.invariant-loop-lane
invariant-loop-lane l = record {
  sum : l.sum ≡ sum_over (λ lane. agreeing l.cells (2 * bytes_before lane l.lag + place_before lane l.lag / 4) (3 - place_before lane l.lag % 4) lane) 0 l.lane;
  most : nat_abs l.sum ≤ l.lane * 2 ^ 33;
}

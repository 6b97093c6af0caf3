-- The sum is over the values so far, and at most 2 ^ 28 for each.
use Rattle.std.proofs.Common.{◌≡◌, ◌+◌, ◌*◌, ◌/◌, ◌%◌, ◌^◌, ◌≤◌, nat_abs}
use Rattle.dst_spec.specs.Guess.{signed}
use Rattle.level_spec.specs.Correlation.{sum_over}
use Rattle.filter_refiner.specs.Cells.{in_cell}
use Rattle.filter_refiner.proofs.gradient.half_sum.Given as goal

abbrev pub invariant-loop-value : goal.invariant-loop-value
invariant-loop-value l = record {
  sum : l.sum ≡ sum_over (λ v. signed (v / 2 ^ l.bit % 2) (in_cell l.cells (16 * l.back + v) l.lane)) 0 l.value;
  most : nat_abs l.sum ≤ l.value * 2 ^ 28;
}

-- The sum so far is the bits of the residuals that the loop has passed, at most 2,057 for each.
use Rattle.std.proofs.Common.{◌≡◌, ◌*◌, ◌≤◌, length, take}
use Rattle.std.specs.List.{sum_by}
use Rattle.dst_spec.specs.Rice.{rice}
use Rattle.table_code.proofs.spelling.lengths.Given as goal

abbrev pub invariant-loop-r : goal.invariant-loop-r
invariant-loop-r l = record {
  summed : l.sum ≡ sum_by (λ r. length (rice r l.m)) (take l.r-index l.residuals);
  most : l.sum ≤ 2057 * l.r-index;
}

-- The power of 2 so far isn't above the number, and the next one is known.
use Rattle.std.proofs.Common.{◌≡◌, ◌+◌, ◌^◌, ◌≤◌}
use Rattle.filter_refiner.proofs.sizes.power_in.Given as goal

abbrev pub invariant-loop-power : goal.invariant-loop-power
invariant-loop-power l = record {
  next : l.next ≡ 2 ^ (l.power + 1);
  below : 2 ^ l.power ≤ l.number;
}

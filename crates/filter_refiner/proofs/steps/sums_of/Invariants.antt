-- Both sums are over the places so far, and no more than each place can add.
use Rattle.std.proofs.Common.{◌≡◌, ◌+◌, ◌*◌, ◌^◌, ◌≤◌, pos, nat_abs, get_or, ◌-ℤ◌, ◌*ℤ◌}
use Rattle.level_spec.specs.Correlation.{sum_over}
use Rattle.filter_refiner.proofs.steps.sums_of.Given as goal

abbrev pub invariant-loop-place : goal.invariant-loop-place
invariant-loop-place l = record {
  agreement : l.agreement ≡ sum_over (λ p. (pos (get_or l.counts p 0 + get_or l.counts (p + 64) 0) -ℤ pos (2
      * get_or l.counts (p + 64) 0)) *ℤ pos (8 * p + 4)) 0 l.place;
  power : pos l.power ≡ sum_over (λ p. pos ((get_or l.counts p 0 + get_or l.counts (p + 64) 0) * ((8 * p + 4) * (8 * p + 4)))) 0 l.place;
  few : nat_abs l.agreement ≤ l.place * 2 ^ 38;
  most : l.power ≤ l.place * 2 ^ 39;
}

-- The bits are those of the spellings, the first samples and the places so far, with room for those to come.
use Rattle.std.proofs.Common.{◌≡◌, ◌+◌, ◌*◌, ◌^◌, ◌≤◌, length, get_or}
use Rattle.level_spec.specs.Size.{place_bits, sum_below}
use Rattle.filter_refiner.proofs.sizes.filter_size.Given as goal

abbrev pub invariant-loop-place : goal.invariant-loop-place
invariant-loop-place l = record {
  bits : l.bits ≡ 4096 * (l.spelled + l.channels * length l.filter)
      + sum_below (place_bits (λ p. get_or l.counts p 0 + get_or l.counts (p + 64) 0) (λ p. get_or l.counts (p + 64) 0) l.table) l.place;
  most : l.bits ≤ 2 ^ 46 + l.place * 2 ^ 40;
}

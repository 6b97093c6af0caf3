-- The sum is that of the coefficients so far, each at a sample 0.
use Rattle.std.proofs.Common.{◌≡◌, drop}
use Rattle.byte_predictor.specs.Samples.{rising_bits, signed_sum}
use Rattle.byte_predictor.proofs.byte_filter.lowest.Given as goal

abbrev pub invariant-loop-i : goal.invariant-loop-i
invariant-loop-i l = l.sum ≡ signed_sum (drop l.first l.coefs) (rising_bits l.i 0)

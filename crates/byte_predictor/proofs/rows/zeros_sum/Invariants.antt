-- The sum is what the coefficients so far add at samples 0.
use Rattle.std.proofs.Common.{◌≡◌, drop}
use Rattle.byte_predictor.specs.Samples.{rising_bits}
use Rattle.byte_predictor.specs.Upward.{upward_sum}
use Rattle.byte_predictor.proofs.rows.zeros_sum.Given as goal

abbrev pub invariant-loop-i : goal.invariant-loop-i
invariant-loop-i l = l.sum ≡ upward_sum (drop l.first l.coefs) (rising_bits l.i 0)

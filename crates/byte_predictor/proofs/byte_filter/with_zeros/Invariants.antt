-- The coefficients so far stand in front of the array.
use Rattle.std.proofs.Common.{◌≡◌, length, take}
use Rattle.byte_predictor.proofs.byte_filter.with_zeros.Given as goal

abbrev pub invariant-loop-i : goal.invariant-loop-i
invariant-loop-i l = (take l.i l.all ≡ take l.i l.coefs) × (length l.all ≡ 128)

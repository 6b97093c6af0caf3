-- With the coefficient 0 alone, rows of zeros are right.
use Rattle.byte_predictor.proofs.KnownSums.{known-none}
use Rattle.byte_predictor.proofs.known.KnownFilter.new.Goals as goal

pub invariant_of-result : goal.invariant_of-result
invariant_of-result c = known-none

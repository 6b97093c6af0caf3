-- A filter's sum by the coefficients whose sample is 1, and the same number by what they add upward.
use Rattle.byte_predictor.proofs.Ones.{signed_sum-ones, upward-ones}
use Rattle.byte_predictor.proofs.laws.sums.Goals as goal

pub returns-clause-ones : goal.returns-clause-ones
returns-clause-ones c = signed_sum-ones

pub returns-clause-upward : goal.returns-clause-upward
returns-clause-upward c = upward-ones

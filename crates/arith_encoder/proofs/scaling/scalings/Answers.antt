-- The table has each probability's shift, and the probability shifted by it, at its place.
use Rattle.std.proofs.Common.{refl}
use lib.Count.{count_leading_zeros}
use Rattle.arith_encoder.proofs.Scalings.{are_scalings}
use Rattle.arith_encoder.proofs.scaling.scalings.Goals as goal

pub returns : goal.returns
unfolding count_leading_zeros
returns c = are_scalings _ refl

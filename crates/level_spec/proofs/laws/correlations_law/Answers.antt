-- At lag 0 all samples of the channels agree, fewer than 2 ^ 20 of them, and no other lag is greater in size.
use Rattle.level_spec.proofs.Sizes.{are_correlations}
use Rattle.level_spec.proofs.laws.correlations_law.Goals as goal

pub returns : goal.returns
returns c = are_correlations

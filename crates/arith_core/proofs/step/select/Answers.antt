-- The mask is all ones or all zeros, so it lets the first number through or the second.
use Rattle.arith_core.proofs.Masks.{chosen_by_mask}
use Rattle.arith_core.proofs.step.select.Goals as goal

pub returns : goal.returns
returns c = chosen_by_mask c.args.test c.args.first c.args.second c.from-ones.result c.ranges.first.fits c.ranges.second.fits c.from-ones.ensures

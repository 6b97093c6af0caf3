-- The mask is all ones or all zeros, so it lets the first number through or the second.
use Rattle.arith_lanes.proofs.Masks.{chosen_by_mask}
use Rattle.arith_lanes.proofs.lane.chosen.Goals as goal

pub returns : goal.returns
returns c test is = chosen_by_mask test c.args.first c.args.second c.args.mask c.ranges.first.fits c.ranges.second.fits is

-- The scale in 4096ths is that of the range.
use Rattle.std.proofs.Common.{arith}
use Rattle.std.proofs.lemmas.Grind.{common_steps}
use Rattle.arith_lanes.proofs.lane.scale.Goals as goal

pub returns : goal.returns
returns c = grind (arith, common_steps)

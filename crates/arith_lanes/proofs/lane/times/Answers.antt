-- A product and its carry are those of the wider number.
use Rattle.std.proofs.Common.{rules}
use Rattle.arith_lanes.proofs.lane.times.Goals as goal

pub returns : goal.returns
returns c = search rules

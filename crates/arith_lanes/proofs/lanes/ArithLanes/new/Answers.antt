-- The registers are those of a code that begins, all of whose bits are 0.
use Rattle.arith_lanes.proofs.Beginning.{begins_none}
use Rattle.arith_lanes.proofs.lanes.ArithLanes.new.Goals as goal

pub returns : goal.returns
returns c = begins_none

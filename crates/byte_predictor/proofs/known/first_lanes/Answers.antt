-- One lane more is that of its samples.
use Rattle.std.proofs.Common.{rules}
use Rattle.byte_predictor.proofs.known.first_lanes.Goals as goal

pub loop-place-preserved : goal.loop-place-preserved
loop-place-preserved c = search rules

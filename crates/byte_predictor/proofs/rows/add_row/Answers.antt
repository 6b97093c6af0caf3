-- Each lane has the sum that it had eight samples before, and what is added.
use Rattle.std.proofs.Common.{rules}
use Rattle.byte_predictor.proofs.rows.add_row.Goals as goal

pub loop-lane-preserved : goal.loop-lane-preserved
loop-lane-preserved c = search rules

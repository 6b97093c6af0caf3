-- Rows in front have another filter, or one is found.
use Rattle.std.proofs.Common.{rules}
use Rattle.frame_predictions.proofs.row.find.Goals as goal

pub loop-place-init : goal.loop-place-init
loop-place-init c = search rules

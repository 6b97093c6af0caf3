-- The code is that of the prediction's sign and size.
use Rattle.std.proofs.Common.{rules}
use Rattle.frame_predictions.proofs.fill.code_of.Goals as goal

pub returns-then-one-guess : goal.returns-then-one-guess
returns-then-one-guess c = search rules

pub returns-else-one-guess : goal.returns-else-one-guess
returns-else-one-guess c = search rules

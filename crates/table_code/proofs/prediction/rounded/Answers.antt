-- An eighth of a sum is rounded to the nearest, and of two to the upper.
use Rattle.std.proofs.Common.{rules}
use Rattle.table_code.proofs.prediction.rounded.Goals as goal

pub returns : goal.returns
returns c = search rules

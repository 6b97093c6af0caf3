-- A row has one code for each sample, each at its place.
use Rattle.frame_predictions.proofs.Elements.{codes-at, codes-length}
use Rattle.frame_predictions.proofs.laws.row_of_codes.Goals as goal

pub returns-clause-each : goal.returns-clause-each
returns-clause-each c = codes-at

pub returns-clause-long : goal.returns-clause-long
returns-clause-long c = codes-length

-- With the coefficient 0 alone, rows of zeros are right.
use Rattle.byte_predictor.proofs.Lanes.{rows-none}
use Rattle.byte_predictor.proofs.row_filter.RowFilter.new.Goals as goal

pub invariant_of-result : goal.invariant_of-result
invariant_of-result c = rows-none

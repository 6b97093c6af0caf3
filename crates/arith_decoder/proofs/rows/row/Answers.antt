-- The columns one behind the other have the factor and the parts of a probability, each 128 places on.
use Rattle.std.proofs.Common.{◌≡◌}
use lib.Count.{count_leading_zeros}
use Rattle.arith_decoder.proofs.Tables.{all_rows, is_row}
use Rattle.arith_decoder.proofs.rows.row.Goals as goal

pub returns : goal.returns
unfolding count_leading_zeros
returns c =
    let value : c.as_flattened.result.now ≡ all_rows = c.as_flattened.ensures.value in
    is_row c.args.p c.as_flattened.result.now c.requires.least c.requires.most value

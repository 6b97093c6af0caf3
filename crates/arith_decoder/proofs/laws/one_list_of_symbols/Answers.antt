-- That one list of symbols alone has the code is shown with the intervals, in `dst_spec`.
use Rattle.dst_spec.proofs.Intervals.{one_list_of_symbols}
use Rattle.arith_decoder.proofs.laws.one_list_of_symbols.Goals as goal

pub returns : goal.returns
returns c = one_list_of_symbols

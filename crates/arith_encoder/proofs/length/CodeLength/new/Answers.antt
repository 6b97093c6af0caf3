-- Without symbols the range is 4,095, and there is no doubling.
use Rattle.std.proofs.Common.{refl}
use Rattle.dst_spec.specs.Interval.{interval_from}
use Rattle.arith_encoder.proofs.length.CodeLength.new.Goals as goal

pub returns-clause-measures : goal.returns-clause-measures
unfolding interval_from
returns-clause-measures c = (refl, refl)

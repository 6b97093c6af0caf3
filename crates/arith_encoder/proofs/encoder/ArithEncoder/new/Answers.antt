-- With one bit 0 held back, low end 0 and the range 4,095, no symbol is encoded yet.
use Rattle.std.proofs.Common.{refl}
use Rattle.dst_spec.specs.Interval.{interval_from}
use Rattle.arith_encoder.proofs.encoder.ArithEncoder.new.Goals as goal

pub returns-clause-stands : goal.returns-clause-stands
unfolding interval_from
returns-clause-stands c = rw (c.new.ensures.number, c.new.ensures.count) refl

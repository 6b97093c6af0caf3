-- Without bytes and pending bits nothing is written.
use Rattle.std.proofs.Common.{refl}
use Rattle.dst_spec.specs.Bits.{bits, low_bits}
use Rattle.bit_io.proofs.writer.BitWriter.new.Goals as goal

pub returns-clause-bits : goal.returns-clause-bits
unfolding bits low_bits
returns-clause-bits c = rw c.in_ok-with_capacity.ensures.items refl

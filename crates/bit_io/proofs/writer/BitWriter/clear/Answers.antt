-- Without bytes and pending bits nothing is written, and what it took is room again.
use Rattle.std.proofs.Common.{arith, refl}
use Rattle.dst_spec.specs.Bits.{bits, low_bits}
use Rattle.bit_io.proofs.Buffers.{length-buffer}
use Rattle.bit_io.proofs.writer.BitWriter.clear.Goals as goal

pub returns-clause-bits : goal.returns-clause-bits
unfolding bits low_bits
returns-clause-bits c = rw c.clear.ensures.items refl

pub returns-clause-room : goal.returns-clause-room
returns-clause-room c =
    let f = c.self.inside in
    rw (← c.self.view_is) (omega (arith, c.clear.ensures.len, c.self.invariant.within, length-buffer f.bytes.items f.count f.pending, f.bytes.ok.0))

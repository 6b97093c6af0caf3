-- What is written fits the capacity, so the room is what that has beyond it.
use Rattle.std.proofs.Common.{arith}
use Rattle.bit_io.proofs.Buffers.{length-buffer}
use Rattle.bit_io.proofs.writer.BitWriter.room.Goals as goal

pub overflow_sub-result : goal.overflow_sub-result
overflow_sub-result c =
    let f = c.self.inside in
    let is = rw (← c.self.view_is) at c.length.ensures.length in
    omega (arith, is, length-buffer f.bytes.items f.count f.pending, f.bytes.ok.0, c.self.invariant.within)

pub returns-clause-room : goal.returns-clause-room
returns-clause-room c =
    let f = c.self.inside in
    let is = rw (← c.self.view_is) at c.length.ensures.length in
    rw (← c.self.view_is) (omega (arith, is, length-buffer f.bytes.items f.count f.pending, f.bytes.ok.0))

pub returns-clause-whole : goal.returns-clause-whole
returns-clause-whole c =
    let f = c.self.inside in
    rw (← c.self.view_is) (omega (arith, length-buffer f.bytes.items f.count f.pending, f.bytes.ok.0, c.self.invariant.within))

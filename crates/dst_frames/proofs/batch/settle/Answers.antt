-- The answer is the tail of the frame's bytes and the sound that is held.
use Rattle.std.proofs.Common.{refl}
use Rattle.dst_frames.proofs.batch.settle.Goals as goal

pub returns-clause-tail : goal.returns-clause-tail
returns-clause-tail c = (c.tail_of-tail.result, refl, rw (c.stored.ensures.bytes, c.as_slice.ensures.value) at c.tail_of-tail.ensures)

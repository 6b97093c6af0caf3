-- The number of frames is rounded up.
use Rattle.std.proofs.Common.{◌<◌, arith}
use Rattle.dst_spec.specs.Sample.{sound_bytes}
use Rattle.dsdiff_chunks.proofs.Refused.{sound_said}
use Rattle.dsdiff_chunks.proofs.origin.is_sound_of.Goals as goal

pub returns-then-sound-count-eq0 : goal.returns-then-sound-count-eq0
returns-then-sound-count-eq0 c =
    let even = rw c.count.ensures.count at c.if-sound-count-eq0.true in
    let some : 0 < c.sound_bytes.result = omega (arith, c.sound_bytes.ensures.least) in
    sound_said c.args.channels.channels (sound_bytes c.args.channels) c.args.frame_count c.args.sound c.sound_bytes.result c.div_ceil.result c.from.result
    even c.sound_bytes.ensures.bytes some c.div_ceil.ensures c.from.ensures

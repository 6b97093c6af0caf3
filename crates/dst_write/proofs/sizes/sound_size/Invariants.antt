-- The bytes of `FRTE` and of the frames' chunks that the loop has passed.
use Rattle.std.proofs.Common.{◌≡◌, ◌+◌, ◌*◌, ◌≤◌, take}
use Rattle.dst_write.specs.Layout.{frames_size}
use Rattle.dst_write.proofs.sizes.sound_size.Given as goal

abbrev pub invariant-loop-size : goal.invariant-loop-size
invariant-loop-size l = (l.bytes ≡ 18 + frames_size (take l.size-index l.sizes)) × (l.bytes ≤ 18 + l.size-index * 8589934592)
